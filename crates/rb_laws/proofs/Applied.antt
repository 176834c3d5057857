-- What applying the entries on the way up to a spot of a tree makes: the content, the number of changes, and the configuration that they come to. A
-- change that is refused counts too, and leaves the configuration (etcd raft documentation, "Membership Changes"). Nothing here is about nodes.
use Rattle.std.proofs.Common.{◌≡◌, ℕ, zero, suc, ◌+◌, ◌<◌, ◌≤◌, Bool, true, false, List, ◌++◌, Result, Ok, Err, refl, sym, ap, subst, ◌∙◌, arith, inl, inr}
use Rattle.std.specs.Prelude.{Contains}
use Rattle.std.proofs.lemmas.Bool.{cases_lt, cases_eq, false≢true}
use Rattle.rb_raftlog.specs.Bodies.{is_change}
use Rattle.rb_raftlog.specs.declared.entry.Body.{Body}
use Rattle.rb_raftlog.specs.declared.entry.Body.TheVariants.{Payload, Change}
use Rattle.rb_tracker.proofs.ChangeLaws.{changed_is, changed_meets}
use Rattle.rb_tracker.proofs.QuorumLaws.{quorums_meet}
use Rattle.rb_tracker.specs.Changes.{changed, IsConfig}
use Rattle.rb_tracker.specs.Quorum.{IsQuorum, ShareVoter}
use Rattle.rb_tracker.specs.declared.changes.ChangeFault.{ChangeFault}
use Rattle.rb_tracker.specs.declared.config.Config.{Config}
use Rattle.rb_node.specs.Compacting.{changed_or_same, config_with}
use Rattle.rb_laws.specs.Choices.{bytes_of}
use Rattle.rb_laws.proofs.Links.{Link, Extends}
use Rattle.rb_laws.proofs.Spots.{Spot, site, under, Down, Descends, IsTree, here, one_down, line, same_link}

pub record Applied : Type 0 where
  pub content : List ℕ
  pub changes : ℕ
  pub config : Config

abbrev pub counted : Body → ℕ → ℕ
counted (Payload bytes) n = n
counted (Change transition words) n = n + 1

-- after an entry
abbrev pub applied_with : Applied → Body → Applied
applied_with s body = record { content = s.content ++ bytes_of body; changes = counted body s.changes; config = config_with s.config body }

-- a spot is this number of links above the root, and this is applied there
abbrev pub Makes : List Link → Spot → Applied → ℕ → Spot → Applied → Type 0
Makes ls root start zero x s = (x ≡ root) × (s ≡ start)
Makes ls root start (suc d) x s =
    (l : Link) × (below : Applied) × Contains ls l × (site l ≡ x) × Makes ls root start d (under l) below × (s ≡ applied_with below l.entry.body)

pub record IsMade (ls : List Link) (root : Spot) (start : Applied) (x : Spot) (s : Applied) : Type 0 where
  pub steps : ℕ
  pub makes : Makes ls root start steps x s

-- ---- what an entry makes

pub plain_counts : (body : Body) (n : ℕ) → is_change body ≡ false → counted body n ≡ n
plain_counts (Payload bytes) n plain = refl
plain_counts (Change transition words) n plain = absurd (false≢true (sym plain))

pub plain_makes : (c : Config) (body : Body) → is_change body ≡ false → config_with c body ≡ c
plain_makes c (Payload bytes) plain = refl
plain_makes c (Change transition words) plain = absurd (false≢true (sym plain))

pub body_good : (body : Body) (c : Config) → IsConfig c → IsConfig (config_with c body)
body_good (Payload bytes) c good = good
body_good (Change transition words) c good =
    let either : (r : Result Config ChangeFault) → changed c transition words ≡ r → IsConfig (changed_or_same c r) = λ r is.
    (elim r as (λ x. changed c transition words ≡ x → IsConfig (changed_or_same c x)) [ Ok d ↦ λ e. changed_is c d transition words good e | Err fault ↦ λ _. good ] is) in
    either (changed c transition words) refl

-- a quorum before a change and one after it share a voter
body_meets : (body : Body) (c : Config) (p q : ℕ → Bool) → IsConfig c → IsQuorum c p → IsQuorum (config_with c body) q → ShareVoter c p q
body_meets (Payload bytes) c p q good first second = quorums_meet c p q first second
body_meets (Change transition words) c p q good first second =
    let either : (r : Result Config ChangeFault) → changed c transition words ≡ r → IsQuorum (changed_or_same c r) q → ShareVoter c p q = λ r is.
    (elim r as (λ x. changed c transition words ≡ x → IsQuorum (changed_or_same c x) q → ShareVoter c p q) [
      | Ok d ↦ λ e after. changed_meets c d transition words p q good e first after
      | Err fault ↦ λ _ after. quorums_meet c p q first after
    ] is) in
    either (changed c transition words) refl second

-- ---- up a link

pub root_made : (ls : List Link) (root : Spot) (start : Applied) → IsMade ls root start root start
root_made ls root start = record { steps = zero; makes = (refl, refl) }

pub up_made : (ls : List Link) (root : Spot) (start : Applied) (l : Link) (s : Applied) → Contains ls l → IsMade ls root start (under l) s → IsMade ls root start (site l) (applied_with s l.entry.body)
up_made ls root start l s among at = record { steps = suc at.steps; makes = (l, s, among, refl, at.makes, refl) }

still_makes : (old new : List Link) (root : Spot) (start : Applied) (d : ℕ) (x : Spot) (s : Applied) → Extends old new → Makes old root start d x s → Makes new root start d x s
still_makes old new root start zero x s more h = h
still_makes old new root start (suc d) x s more h = (h.0, h.1, more h.0 h.2, h.3, still_makes old new root start d (under h.0) h.1 more h.4, h.5)

pub still_made : (old new : List Link) (root : Spot) (start : Applied) (x : Spot) (s : Applied) → Extends old new → IsMade old root start x s → IsMade new root start x s
still_made old new root start x s more at = record { steps = at.steps; makes = still_makes old new root start at.steps x s more at.makes }

-- ---- at a spot one thing is made

no_link_at_root : (root : Spot) (ls : List Link) (l : Link) → IsTree root ls → Contains ls l → site l ≡ root → ⊥
no_link_at_root root ls l tree among is = let past = tree.above l among in let index = ap (λ (s : Spot). s.index) is in omega (arith, past, index)

one_makes : (root : Spot) (ls : List Link) (start : Applied) (d e : ℕ) (x : Spot) (a b : Applied) → IsTree root ls → Makes ls root start d x a → Makes ls root start e x b → a ≡ b
one_makes root ls start zero zero x a b tree h k = h.1 ∙ sym k.1
one_makes root ls start zero (suc e) x a b tree h k = absurd (no_link_at_root root ls k.0 tree k.2 (k.3 ∙ h.0))
one_makes root ls start (suc d) zero x a b tree h k = absurd (no_link_at_root root ls h.0 tree h.2 (h.3 ∙ k.0))
one_makes root ls start (suc d) (suc e) x a b tree h k =
    let one : k.0 ≡ h.0 = same_link root ls x k.0 h.0 tree k.2 h.2 k.3 h.3 in
    let below : h.1 ≡ k.1 = one_makes root ls start d e (under h.0) h.1 k.1 tree h.4 (subst (λ (l : Link). Makes ls root start e (under l) k.1) one k.4) in
    h.5 ∙ ap (λ (s : Applied). applied_with s h.0.entry.body) below ∙ ap (λ (l : Link). applied_with k.1 l.entry.body) (sym one) ∙ sym k.5

pub one_made : (root : Spot) (ls : List Link) (start : Applied) (x : Spot) (a b : Applied) → IsTree root ls → IsMade ls root start x a → IsMade ls root start x b → a ≡ b
one_made root ls start x a b tree h k = one_makes root ls start h.steps k.steps x a b tree h.makes k.makes

-- where the first configuration is one, each is
good_makes : (ls : List Link) (root : Spot) (start : Applied) (d : ℕ) (x : Spot) (s : Applied) → IsConfig start.config → Makes ls root start d x s → IsConfig s.config
good_makes ls root start zero x s good h = subst (λ (y : Applied). IsConfig y.config) (sym h.1) good
good_makes ls root start (suc d) x s good h =
    subst (λ (y : Applied). IsConfig y.config) (sym h.5) (body_good h.0.entry.body h.1.config (good_makes ls root start d (under h.0) h.1 good h.4))

pub made_good : (ls : List Link) (root : Spot) (start : Applied) (x : Spot) (s : Applied) → IsConfig start.config → IsMade ls root start x s → IsConfig s.config
made_good ls root start x s good at = good_makes ls root start at.steps x s good at.makes

-- ---- from one spot up to another

-- how many changes more there are, and what they make of the lower configuration
pub record Up (ls : List Link) (root : Spot) (start low : Applied) (x : Spot) : Type 0 where
  pub made : Applied
  pub is : IsMade ls root start x made
  pub more : ℕ
  pub sum : made.changes ≡ low.changes + more
  pub same : more ≡ 0 → made.config ≡ low.config
  pub next : more ≡ 1 → (l : Link) × Contains ls l × (is_change l.entry.body ≡ true) × (made.config ≡ config_with low.config l.entry.body)

up_by : (ls : List Link) (root : Spot) (start low : Applied) (l : Link) (body : Body) → l.entry.body ≡ body → Contains ls l → (u : Up ls root start low (under l)) → IsMade ls root start (site l) (applied_with u.made body) → Up ls root start low (site l)
up_by ls root start low l (Payload bytes) of among u at = record { made = applied_with u.made (Payload bytes); is = at; more = u.more; sum = u.sum; same = u.same; next = u.next }
up_by ls root start low l (Change transition words) of among u at =
    let body : Body = Change transition words in
    let before = u.sum in
    record {
      made = applied_with u.made body;
      is = at;
      more = u.more + 1;
      sum = omega (arith, before);
      same = λ none. absurd (omega (arith, none));
      next = λ one. (
        l,
        among,
        ap is_change of,
        ap (λ (y : Config). config_with y body) (u.same (omega (arith, one))) ∙ ap (config_with low.config) (sym of),
      );
    }

go_up : (ls : List Link) (root : Spot) (start low : Applied) (from : Spot) (d : ℕ) (x : Spot) → Down ls from d x → IsMade ls root start from low → Up ls root start low x
go_up ls root start low from zero x h at = record {
  made = low;
  is = subst (λ (y : Spot). IsMade ls root start y low) (sym h) at;
  more = 0;
  sum = omega arith;
  same = λ _. refl;
  next = λ one. absurd (omega (arith, one));
}
go_up ls root start low from (suc d) x h at =
    let l = h.0 in
    let u = go_up ls root start low from d (under l) h.3 at in
    subst (Up ls root start low) h.2 (up_by ls root start low l l.entry.body refl h.1 u (up_made ls root start l u.made h.1 u.is))

pub up_from : (ls : List Link) (root : Spot) (start low : Applied) (x from : Spot) → Descends ls x from → IsMade ls root start from low → Up ls root start low x
up_from ls root start low x from r at = go_up ls root start low from r.steps x r.down at

-- the number of changes rises
pub rises : (root : Spot) (ls : List Link) (start : Applied) (x low : Spot) (s t : Applied) → IsTree root ls → Descends ls x low → IsMade ls root start low s → IsMade ls root start x t → s.changes ≤ t.changes
rises root ls start x low s t tree r at top =
    let u = up_from ls root start s x low r at in
    let one = ap (λ (y : Applied). y.changes) (one_made root ls start x u.made t tree u.is top) in
    let sum = u.sum in
    omega (arith, one, sum)

-- of two spots on one way down, that to which fewer changes lead is reached from the other
pub behind_by_number : (root : Spot) (ls : List Link) (start : Applied) (top x y : Spot) (s t : Applied) → IsTree root ls → Descends ls top x → Descends ls top y → IsMade ls root start x s → IsMade ls root start y t → s.changes < t.changes → Descends ls y x
behind_by_number root ls start top x y s t tree p q at over less =
    elim (cases_lt y.index x.index) as (λ _. Descends ls y x) [
      | inl above ↦ (let down = rises root ls start x y t s tree (line root ls top y x tree q p (omega (arith, above))) over at in absurd (omega (arith, down, less)))
      | inr low ↦ line root ls top x y tree p q low
    ]

-- where no entry is a change, nothing changes
plain_down : (ls : List Link) (root : Spot) (start : Applied) (d : ℕ) (x : Spot) → ((l : Link) → Contains ls l → is_change l.entry.body ≡ false) → Down ls root d x → (s : Applied) × IsMade ls root start x s × (s.changes ≡ start.changes)
plain_down ls root start zero x plain h = (start, subst (λ (y : Spot). IsMade ls root start y start) (sym h) (root_made ls root start), refl)
plain_down ls root start (suc d) x plain h =
    let l = h.0 in
    let below = plain_down ls root start d (under l) plain h.3 in
    let s = applied_with below.0 l.entry.body in
    (s, subst (λ (y : Spot). IsMade ls root start y s) h.2 (up_made ls root start l below.0 h.1 below.1), plain_counts l.entry.body below.0.changes (plain l h.1) ∙ below.2)

pub plain_made : (ls : List Link) (root : Spot) (start : Applied) (x : Spot) → ((l : Link) → Contains ls l → is_change l.entry.body ≡ false) → Descends ls x root → (s : Applied) × IsMade ls root start x s × (s.changes ≡ start.changes)
plain_made ls root start x plain r = plain_down ls root start r.steps x plain r.down

-- ---- quorums of two configurations

-- if any entry is a change, the first configuration is one
abbrev pub IsProper : List Link → Applied → Type 0
IsProper ls start = (l : Link) → Contains ls l → is_change l.entry.body ≡ true → IsConfig start.config

-- which are the same, or one change apart: a quorum of the one and one of the other share a voter
pub near_meet : (root : Spot) (ls : List Link) (start : Applied) (low high : Spot) (s t : Applied) (p q : ℕ → Bool) → IsTree root ls → IsProper ls start → IsMade ls root start low s → IsMade ls root start high t → Descends ls high low → t.changes ≤ s.changes + 1
    → IsQuorum s.config p → IsQuorum t.config q → ShareVoter s.config p q
near_meet root ls start low high s t p q tree proper at over r near first second =
    let u = up_from ls root start s high low r at in
    let one : u.made ≡ t = one_made root ls start high u.made t tree u.is over in
    let changes = ap (λ (y : Applied). y.changes) one in
    let config : t.config ≡ u.made.config = ap (λ (y : Applied). y.config) (sym one) in
    let sum = u.sum in
    elim (cases_eq u.more 0) as (λ _. ShareVoter s.config p q) [
      | inl none ↦ quorums_meet s.config p q first (subst (λ (x : Config). IsQuorum x q) (config ∙ u.same none) second)
      | inr some ↦
          let next = u.next (omega (arith, sum, changes, near, some)) in
          let good = made_good ls root start low s (proper next.0 next.1 next.2) at in
          body_meets next.0.entry.body s.config p q good first (subst (λ (x : Config). IsQuorum x q) (config ∙ next.3) second)
    ]

-- ---- a change on the way

-- a link is the change after this number of others
pub record IsChangeLink (ls : List Link) (root : Spot) (start : Applied) (l : Link) (number : ℕ) : Type 0 where
  pub among : Contains ls l
  pub before : Applied
  pub is : IsMade ls root start (under l) before
  pub numbered : before.changes ≡ number
  pub next : Applied
  pub makes : IsMade ls root start (site l) next
  pub counts : next.changes ≡ number + 1

pub record HasChange (ls : List Link) (root : Spot) (start : Applied) (x : Spot) (number : ℕ) : Type 0 where
  pub link : Link
  pub change : IsChangeLink ls root start link number
  pub behind : Descends ls x (site link)

still_behind : (ls : List Link) (root : Spot) (start : Applied) (l : Link) (j : ℕ) → Contains ls l → HasChange ls root start (under l) j → HasChange ls root start (site l) j
still_behind ls root start l j among r = record { link = r.link; change = r.change; behind = one_down ls l (site r.link) among r.behind }

find_by : (ls : List Link) (root : Spot) (start : Applied) (j : ℕ) (l : Link) (s : Applied) (body : Body) → l.entry.body ≡ body → Contains ls l → IsMade ls root start (under l) s → IsMade ls root start (site l) (applied_with s body) → (j < s.changes → HasChange ls root start (under l) j) → j < counted body s.changes → HasChange ls root start (site l) j
find_by ls root start j l s (Payload bytes) of among at up rest low = still_behind ls root start l j among (rest low)
find_by ls root start j l s (Change transition words) of among at up rest low =
    elim (cases_lt j s.changes) as (λ _. HasChange ls root start (site l) j) [
      | inl less ↦ still_behind ls root start l j among (rest less)
      | inr over ↦ record {
        link = l;
        change = record {
          among = among;
          before = s;
          is = at;
          numbered = omega (arith, over, low);
          next = applied_with s (Change transition words);
          makes = up;
          counts = omega (arith, over, low);
        };
        behind = here ls (site l);
      }
    ]

find_change : (ls : List Link) (root : Spot) (start : Applied) (j d : ℕ) (x : Spot) (s : Applied) → start.changes ≡ 0 → Makes ls root start d x s → j < s.changes → HasChange ls root start x j
find_change ls root start j zero x s none h low = (let same = ap (λ (y : Applied). y.changes) h.1 in absurd (omega (arith, low, same, none)))
find_change ls root start j (suc d) x s none h low =
    let l = h.0 in
    let count = ap (λ (y : Applied). y.changes) h.5 in
    let at : IsMade ls root start (under l) h.1 = record { steps = d; makes = h.4 } in
    subst (λ (y : Spot). HasChange ls root start y j) h.3
    (find_by ls root start j l h.1 l.entry.body refl h.2 at (up_made ls root start l h.1 h.2 at) (λ less. find_change ls root start j d (under l) h.1 none h.4 less) (omega (arith, low, count)))

-- each number below a spot's is one of a change on the way to it
pub change_at : (ls : List Link) (root : Spot) (start : Applied) (x : Spot) (s : Applied) (j : ℕ) → start.changes ≡ 0 → IsMade ls root start x s → j < s.changes → HasChange ls root start x j
change_at ls root start x s j none at low = find_change ls root start j at.steps x s none at.makes low

-- below a link's spot is what is below the spot under it
pub under_descends : (root : Spot) (ls : List Link) (m : Link) (x : Spot) → IsTree root ls → Contains ls m → Descends ls (site m) x → x.index < m.index → Descends ls (under m) x
under_descends root ls m x tree among r low =
    let go : (d : ℕ) → Down ls x d (site m) → Descends ls (under m) x = λ d. (elim d as (λ k. Down ls x k (site m) → Descends ls (under m) x) [
      | zero ↦ λ h. (let index = ap (λ (y : Spot). y.index) h in absurd (omega (arith, index, low)))
      | suc k ↦ λ h. record { steps = k; down = subst (λ (l : Link). Down ls x k (under l)) (same_link root ls (site m) h.0 m tree h.1 among h.2 refl) h.3 }
    ]) in
    go r.steps r.down

-- a spot on the way that more changes lead to than to a change is above it
pub change_behind : (root : Spot) (ls : List Link) (start : Applied) (top x : Spot) (m : Link) (j : ℕ) (s : Applied) → IsTree root ls → IsChangeLink ls root start m j → Descends ls top (site m) → Descends ls top x → IsMade ls root start x s → j < s.changes → Descends ls x (site m)
change_behind root ls start top x m j s tree change p q at more =
    elim (cases_lt x.index m.index) as (λ _. Descends ls x (site m)) [
      | inr over ↦ line root ls top (site m) x tree p q over
      | inl low ↦
          let r = under_descends root ls m x tree change.among (line root ls top x (site m) tree q p (omega (arith, low))) low in
          let down = rises root ls start (under m) x s change.before tree r at change.is in
          let numbered = change.numbered in
          absurd (omega (arith, down, numbered, more))
    ]
