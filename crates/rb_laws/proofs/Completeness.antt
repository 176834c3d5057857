-- Leader completeness: who is elected has what was committed in an earlier term, and all that is committed stands on one way down (Ongaro's thesis,
-- section 3.6.3), though members change. Whoever is elected or commits is decided on by a quorum of the configuration that it has applied, and has
-- applied all changes of its log but at most one. Where members are fixed, all numbers of changes are 0. Nothing here is about nodes.
use Rattle.std.proofs.Common.{◌≡◌, ◌⊎◌, ℕ, zero, suc, ◌+◌, ◌<◌, ◌≤◌, Bool, true, List, refl, sym, ap, subst, ◌∙◌, arith, inl, inr}
use Rattle.std.specs.Prelude.{Contains}
use Rattle.std.proofs.lemmas.Bool.{cases_lt}
use Rattle.rb_tracker.specs.Quorum.{IsQuorum, ShareVoter}
use Rattle.rb_message.specs.declared.message.Message.{Message}
use Rattle.rb_laws.specs.Votes.{IsCast}
use Rattle.rb_laws.proofs.Links.{Link}
use Rattle.rb_laws.proofs.Spots.{Spot, site, Descends, IsTree, here, through, lower, flat, line, link_rooted}
use Rattle.rb_laws.proofs.Applied.{Applied, IsMade, rises, behind_by_number, IsProper, near_meet, IsChangeLink, change_at, change_behind}
use Rattle.rb_laws.proofs.LeaderLogs.{Election, Ack, History, out_of, IsHistory, from_tip, from_link, IsOfTerm, IsAcked, acked_within, never_lacks, HasStill}

-- ---- decisions

-- Those who decide are a quorum of the configuration at a spot that is known to be committed, behind the end of the decider's log, to which at most one
-- change more leads.
pub record Decides (root : Spot) (start : Applied) (st : History) (is_known : Spot → Type 0) (top : Spot) (deciders : ℕ → Bool) : Type 0 where
  pub by : Spot
  pub known : is_known by
  pub behind : Descends st.links top by
  pub made : Applied
  pub is : IsMade st.links root start by made
  pub newest : Applied
  pub ends : IsMade st.links root start top newest
  pub few : newest.changes ≤ made.changes + 1
  pub quorum : IsQuorum made.config deciders

-- a quorum said that it holds a link's entry, in the entry's term, and others may have heard so
pub record IsDecision (root : Spot) (start : Applied) (st : History) (is_known : Spot → Type 0) (l : Link) : Type 0 where
  pub among : Contains st.links l
  pub holders : ℕ → Bool
  pub held : (v : ℕ) → holders v ≡ true → IsAcked (out_of st) v l
  pub decides : Decides root start st is_known (site l) holders

-- A spot of what is committed by a leader of a term or an earlier one. Such a decision rests on spots of fewer decisions.
abbrev pub Settled : Spot → Applied → History → ℕ → ℕ → Spot → Type 0
Settled root start st zero term x = x ≡ root
Settled root start st (suc n) term x =
    (x ≡ root) ⊎ ((l : Link) × IsDecision root start st (Settled root start st n l.entry.term) l × (l.entry.term ≤ term) × Descends st.links (site l) x)

pub record IsCommitted (root : Spot) (start : Applied) (st : History) (l : Link) : Type 0 where
  pub rank : ℕ
  pub is : IsDecision root start st (Settled root start st rank l.entry.term) l

abbrev pub IsSettled : Spot → Applied → History → ℕ → Spot → Type 0
IsSettled root start st term x = (x ≡ root) ⊎ ((l : Link) × IsCommitted root start st l × (l.entry.term ≤ term) × Descends st.links (site l) x)

-- by leaders of terms before one
pub record IsKnownBefore (root : Spot) (start : Applied) (st : History) (term : ℕ) (x : Spot) : Type 0 where
  pub bound : ℕ
  pub earlier : bound < term
  pub settled : IsSettled root start st bound x

-- Who was elected has of each of its voters what that one had said to hold in an earlier term, unless a leader between lacks it.
pub record IsVoted (root : Spot) (start : Applied) (said : List Message) (st : History) (e : Election) : Type 0 where
  pub voters : ℕ → Bool
  pub decides : Decides root start st (IsKnownBefore root start st e.term) e.tip voters
  pub cast : (v : ℕ) → voters v ≡ true → IsCast said v e.term e.id
  pub each : (v : ℕ) → voters v ≡ true → (l : Link) → Contains st.links l → l.entry.term < e.term → IsAcked st v l → HasStill st e.tip e.term l

pub record IsLawful (root : Spot) (start : Applied) (said : List Message) (st : History) : Type 0 where
  pub history : IsHistory root st
  pub first : start.changes ≡ 0
  pub proper : IsProper st.links start
  pub voted : (e : Election) → Contains st.elections e → IsVoted root start said st e
  pub within : (a : Ack) → Contains st.out_acks a → Contains st.acks a

-- ---- of how many decisions a spot is

pub settled_of : (root : Spot) (start : Applied) (st : History) (n term : ℕ) (x : Spot) → Settled root start st n term x → IsSettled root start st term x
settled_of root start st zero term x h = inl h
settled_of root start st (suc n) term x h =
    elim h as (λ _. IsSettled root start st term x) [ inl first ↦ inl first | inr d ↦ inr (d.0, record { rank = n; is = d.1 }, d.2, d.3) ]

pub settled_by : (root : Spot) (start : Applied) (st : History) (term : ℕ) (x : Spot) → IsSettled root start st term x → (n : ℕ) × Settled root start st n term x
settled_by root start st term x h =
    elim h as (λ _. (n : ℕ) × Settled root start st n term x) [ inl first ↦ (zero, first) | inr d ↦ (suc d.1.rank, inr (d.0, d.1.is, d.2, d.3)) ]

-- ---- what is settled is on one way down, as far as leaders have what is committed

-- leaders of terms before a bound have what was committed in earlier ones
abbrev pub IsComplete : Spot → Applied → History → ℕ → Type 0
IsComplete root start st bound =
    (e : Election) (l : Link) → Contains st.elections e → e.term < bound → IsCommitted root start st l → l.entry.term < e.term → Descends st.links e.tip (site l)

-- two links that are committed are on one way down
meet_before : (root : Spot) (start : Applied) (said : List Message) (st : History) (bound : ℕ) (l m : Link) → IsLawful root start said st → IsComplete root start st bound → IsCommitted root start st l → IsCommitted root start st m → l.entry.term < bound → m.entry.term < bound → l.index ≤ m.index
    → Descends st.links (site m) (site l)
meet_before root start said st bound l m s complete a b before_l before_m low =
    let st_s = s.history in
    elim (cases_lt l.entry.term m.entry.term) as (λ _. Descends st.links (site m) (site l)) [
      | inl earlier ↦
          let made = st_s.made m b.is.among in
          let term = made.of_term in
          let has = complete made.election l made.among (omega (arith, term, before_m)) a (omega (arith, earlier, term)) in
          through st.links (site l) made.election.tip (site m) (from_tip root st m.index m made.election st_s (omega arith) b.is.among made.among term) has
      | inr over ↦ elim (cases_lt m.entry.term l.entry.term) as (λ _. Descends st.links (site m) (site l)) [
        | inr same ↦ from_link root st m.index m l st_s (omega arith) b.is.among a.is.among (omega (arith, over, same)) low
        | inl later ↦
            let made = st_s.made l a.is.among in
            let term = made.of_term in
            let has = complete made.election m made.among (omega (arith, term, before_l)) b (omega (arith, later, term)) in
            let r = through st.links (site m) made.election.tip (site l) (from_tip root st l.index l made.election st_s (omega arith) a.is.among made.among term) has in
            let less = lower st.links (site l) (site m) r in
            let e : site l ≡ site m = flat root st.links (site l) (site m) st_s.tree r (omega (arith, less, low)) in
            subst (λ (x : Spot). Descends st.links (site m) x) (sym e) (here st.links (site m))
      ]
    ]

-- and so are two spots behind them
settled_before : (root : Spot) (start : Applied) (said : List Message) (st : History) (bound t u : ℕ) (x y : Spot) → IsLawful root start said st → IsComplete root start st bound → t < bound → u < bound → IsSettled root start st t x → IsSettled root start st u y → x.index ≤ y.index → Descends st.links y x
settled_before root start said st bound t u x y s complete before_t before_u a b low =
    let tree = s.history.tree in
    elim a as (λ _. Descends st.links y x) [
      | inl first ↦
          let index = ap (λ (z : Spot). z.index) first in
          elim b as (λ _. Descends st.links y x) [
            | inl second ↦ subst (λ (z : Spot). Descends st.links y z) (second ∙ sym first) (here st.links y)
            | inr m ↦
                subst (λ (z : Spot). Descends st.links y z) (sym first)
                (line root st.links (site m.0) root y tree (link_rooted root st.links m.0 tree m.1.is.among) m.3 (omega (arith, index, low)))
          ]
      | inr l ↦ elim b as (λ _. Descends st.links y x) [
        | inl second ↦
            let index = ap (λ (z : Spot). z.index) second in
            subst (λ (z : Spot). Descends st.links z x) (sym second)
            (line root st.links (site l.0) x root tree l.3 (link_rooted root st.links l.0 tree l.1.is.among) (omega (arith, index, low)))
        | inr m ↦
            let of_l = l.2 in
            let of_m = m.2 in
            elim (cases_lt l.0.index m.0.index) as (λ _. Descends st.links y x) [
              | inl less ↦
                  let up = meet_before root start said st bound l.0 m.0 s complete l.1 m.1 (omega (arith, of_l, before_t)) (omega (arith, of_m, before_u)) (omega (arith, less)) in
                  line root st.links (site m.0) x y tree (through st.links x (site l.0) (site m.0) up l.3) m.3 low
              | inr over ↦
                  let up = meet_before root start said st bound m.0 l.0 s complete m.1 l.1 (omega (arith, of_m, before_u)) (omega (arith, of_l, before_t)) over in
                  line root st.links (site l.0) x y tree l.3 (through st.links y (site m.0) (site l.0) up m.3) low
            ]
      ]
    ]

-- ---- a change that is settled was decided where all before it were applied

pub record IsCovered (root : Spot) (start : Applied) (st : History) (term : ℕ) (m : Link) (number : ℕ) : Type 0 where
  pub decision : Link
  pub committed : IsCommitted root start st decision
  pub upto : decision.entry.term ≤ term
  pub behind : Descends st.links (site decision) (site m)
  pub is : committed.is.decides.made.changes ≡ number

-- no change is behind the root
none_behind : (root : Spot) (start : Applied) (st : History) (x : Spot) (m : Link) (number : ℕ) → IsTree root st.links → x ≡ root → IsChangeLink st.links root start m number → Descends st.links x (site m) → ⊥
none_behind root start st x m number tree first change r =
    let past = tree.above m change.among in
    let high = lower st.links x (site m) r in
    let is = ap (λ (y : Spot). y.index) first in
    omega (arith, past, high, is)

covered : (root : Spot) (start : Applied) (st : History) (n term : ℕ) (x : Spot) (m : Link) (number : ℕ) → IsTree root st.links → Settled root start st n term x → IsChangeLink st.links root start m number → Descends st.links x (site m) → IsCovered root start st term m number
covered root start st zero term x m number tree settled change r = absurd (none_behind root start st x m number tree settled change r)
covered root start st (suc n) term x m number tree settled change r =
    elim settled as (λ _. IsCovered root start st term m number) [
      | inl first ↦ absurd (none_behind root start st x m number tree first change r)
      | inr k ↦
          let l = k.0 in
          let d = k.1.decides in
          let low = k.2 in
          let down = through st.links (site m) x (site l) k.3 r in
          let within = rises root st.links start (site l) (site m) change.next d.newest tree down change.makes d.ends in
          let counts = change.counts in
          let few = d.few in
          elim (cases_lt number d.made.changes) as (λ _. IsCovered root start st term m number) [
            | inr over ↦ record { decision = l; committed = record { rank = n; is = k.1 }; upto = low; behind = down; is = omega (arith, over, within, counts, few) }
            | inl less ↦
                let above = change_behind root st.links start (site l) d.by m number d.made tree change down d.behind d.is less in
                let before = covered root start st n l.entry.term d.by m number tree d.known change above in
                let upto = before.upto in
                record { decision = before.decision; committed = before.committed; upto = omega (arith, upto, low); behind = before.behind; is = before.is }
          ]
    ]

settled_covered : (root : Spot) (start : Applied) (st : History) (term : ℕ) (x : Spot) (m : Link) (number : ℕ) → IsTree root st.links → IsSettled root start st term x → IsChangeLink st.links root start m number → Descends st.links x (site m) → IsCovered root start st term m number
settled_covered root start st term x m number tree settled change r = (let k = settled_by root start st term x settled in covered root start st k.0 term x m number tree k.1 change r)

-- ---- leader completeness, by how many changes an election and a commit are apart

-- at most one apart, a voter is among those who decide either
share : (root : Spot) (start : Applied) (said : List Message) (st : History) (bound t u : ℕ) (x y : Spot) (a b : Applied) (p q : ℕ → Bool) → IsLawful root start said st → IsComplete root start st bound → t < bound → u < bound → IsSettled root start st t x → IsSettled root start st u y
    → IsMade st.links root start x a → IsMade st.links root start y b → a.changes ≤ b.changes + 1 → b.changes ≤ a.changes + 1 → IsQuorum a.config p → IsQuorum b.config q → (v : ℕ) × (p v ≡ true) × (q v ≡ true)
share root start said st bound t u x y a b p q s complete before_t before_u first second at over near far one two =
    let tree = s.history.tree in
    elim (cases_lt x.index y.index) as (λ _. (v : ℕ) × (p v ≡ true) × (q v ≡ true)) [
      | inl less ↦
          let down = settled_before root start said st bound t u x y s complete before_t before_u first second (omega (arith, less)) in
          let v : ShareVoter a.config p q = near_meet root st.links start x y a b p q tree s.proper at over down far one two in
          (v.id, v.first, v.second)
      | inr high ↦
          let down = settled_before root start said st bound u t y x s complete before_u before_t second first high in
          let v : ShareVoter b.config q p = near_meet root st.links start y x b a q p tree s.proper over at down near two one in
          (v.id, v.second, v.first)
    ]

-- one that is elected has such a commit: the two quorums share a voter
near_complete : (root : Spot) (start : Applied) (said : List Message) (st : History) (e : Election) (l : Link) → IsLawful root start said st → IsComplete root start st e.term → (v : IsVoted root start said st e) → (k : IsCommitted root start st l) → l.entry.term < e.term
    → v.decides.made.changes ≤ k.is.decides.made.changes + 1 → k.is.decides.made.changes ≤ v.decides.made.changes + 1 → Descends st.links e.tip (site l)
near_complete root start said st e l s complete v k later near far =
    let d = k.is.decides in
    let x = v.decides in
    let both = share root start said st e.term x.known.bound l.entry.term x.by d.by x.made d.made v.voters k.is.holders s complete x.known.earlier later x.known.settled (settled_of root start st k.rank l.entry.term d.by d.known) x.is d.is near far x.quorum d.quorum in
    let acked : IsAcked st both.0 l = acked_within st both.0 l s.within (k.is.held both.0 both.2) in
    elim (v.each both.0 both.1 l k.is.among later acked) as (λ _. Descends st.links e.tip (site l)) [
      | inl has ↦ has
      | inr between ↦
          let lacks = between.3 in
          let term = lacks.of_term in
          let after = between.1 in
          let before = between.2 in
          absurd (never_lacks root st between.0 l s.history lacks (complete lacks.election l lacks.among (omega (arith, term, before)) k (omega (arith, term, after))))
    ]

-- one that has applied more changes has one that was decided after the commit, or before it in the way of its leader
ahead_complete : (root : Spot) (start : Applied) (said : List Message) (st : History) (e : Election) (l : Link) → IsLawful root start said st → IsComplete root start st e.term → (v : IsVoted root start said st e) → (k : IsCommitted root start st l) → l.entry.term < e.term → k.is.decides.made.changes + 1 < v.decides.made.changes → Descends st.links e.tip (site l)
ahead_complete root start said st e l s complete v k later more =
    let tree = s.history.tree in
    let d = k.is.decides in
    let x = v.decides in
    let j : ℕ = d.made.changes + 1 in
    let few = d.few in
    let early = x.known.earlier in
    let has = change_at st.links root start x.by x.made j s.first x.is more in
    let m = has.link in
    let counts = has.change.counts in
    let cover = settled_covered root start st x.known.bound x.by m j tree x.known.settled has.change has.behind in
    let other = cover.decision in
    let upto = cover.upto in
    let below : Descends st.links (site m) (site l) =
    elim (cases_lt other.index l.index) as (λ _. Descends st.links (site m) (site l)) [
      | inl less ↦
          let up = meet_before root start said st e.term other l s complete cover.committed k (omega (arith, upto, early)) later (omega (arith, less)) in
          let within = rises root st.links start (site l) (site m) has.change.next d.newest tree (through st.links (site m) (site other) (site l) up cover.behind) has.change.makes d.ends in
          absurd (omega (arith, within, counts, few))
      | inr over ↦
          let up = meet_before root start said st e.term l other s complete k cover.committed later (omega (arith, upto, early)) over in
          behind_by_number root st.links start (site other) (site l) (site m) d.newest has.change.next tree up cover.behind d.ends has.change.makes (omega (arith, counts, few))
    ] in
    through st.links (site l) (site m) e.tip (through st.links (site m) x.by e.tip x.behind has.behind) below

-- and none has applied so few: it has the change after the next one, and so as many
behind_never : (root : Spot) (start : Applied) (said : List Message) (st : History) (e : Election) (term : ℕ) (y : Spot) (b : Applied) → IsLawful root start said st → IsComplete root start st e.term → (v : IsVoted root start said st e) → term < e.term → IsSettled root start st term y → IsMade st.links root start y b → v.decides.made.changes + 1 < b.changes → ⊥
behind_never root start said st e term y b s complete v earlier settled at more =
    let tree = s.history.tree in
    let x = v.decides in
    let j : ℕ = x.made.changes + 1 in
    let few = x.few in
    let has = change_at st.links root start y b j s.first at more in
    let m = has.link in
    let counts = has.change.counts in
    let cover = settled_covered root start st term y m j tree settled has.change has.behind in
    let upto = cover.upto in
    let is = cover.is in
    let down = near_complete root start said st e cover.decision s complete v cover.committed (omega (arith, upto, earlier)) (omega (arith, is)) (omega (arith, is)) in
    let within = rises root st.links start e.tip (site m) has.change.next x.newest tree (through st.links (site m) (site cover.decision) e.tip down cover.behind) has.change.makes x.ends in
    omega (arith, within, counts, few)

complete_at : (root : Spot) (start : Applied) (said : List Message) (st : History) (e : Election) (l : Link) → IsLawful root start said st → IsComplete root start st e.term → Contains st.elections e → IsCommitted root start st l → l.entry.term < e.term → Descends st.links e.tip (site l)
complete_at root start said st e l s complete elected k later =
    let v = s.voted e elected in
    let d = k.is.decides in
    let x = v.decides in
    elim (cases_lt (d.made.changes + 1) x.made.changes) as (λ _. Descends st.links e.tip (site l)) [
      | inl ahead ↦ ahead_complete root start said st e l s complete v k later ahead
      | inr near ↦ elim (cases_lt (x.made.changes + 1) d.made.changes) as (λ _. Descends st.links e.tip (site l)) [
        | inl behind ↦ absurd (behind_never root start said st e l.entry.term d.by d.made s complete v later (settled_of root start st k.rank l.entry.term d.by d.known) d.is behind)
        | inr far ↦ near_complete root start said st e l s complete v k later near far
      ]
    ]

complete_before : (root : Spot) (start : Applied) (said : List Message) (st : History) (bound : ℕ) → IsLawful root start said st → IsComplete root start st bound
complete_before root start said st zero s e l elected before k later = absurd (omega (arith, before))
complete_before root start said st (suc n) s e l elected before k later =
    let below = complete_before root start said st n s in
    elim (cases_lt e.term n) as (λ _. Descends st.links e.tip (site l)) [
      | inl less ↦ below e l elected less k later
      | inr over ↦
          let same : n ≡ e.term = omega (arith, over, before) in
          complete_at root start said st e l s (subst (IsComplete root start st) same below) elected k later
    ]

pub complete : (root : Spot) (start : Applied) (said : List Message) (st : History) (e : Election) (l : Link) → IsLawful root start said st → Contains st.elections e → IsCommitted root start st l → l.entry.term < e.term → Descends st.links e.tip (site l)
complete root start said st e l s elected k later = complete_before root start said st (e.term + 1) s e l elected (omega arith) k later

-- State machine safety: two spots of what is committed are on one way down, whoever committed them and when.
pub safe_meet : (root : Spot) (start : Applied) (said : List Message) (st : History) (t u : ℕ) (x y : Spot) → IsLawful root start said st → IsSettled root start st t x → IsSettled root start st u y → x.index ≤ y.index → Descends st.links y x
safe_meet root start said st t u x y s a b low = settled_before root start said st (t + u + 1) t u x y s (complete_before root start said st (t + u + 1) s) (omega arith) (omega arith) a b low

-- what is committed by then is of the log of a term's leader, if there is one
pub safe_of_term : (root : Spot) (start : Applied) (said : List Message) (st : History) (e : Election) (x : Spot) → IsLawful root start said st → Contains st.elections e → IsSettled root start st e.term x → IsOfTerm st e.term x
safe_of_term root start said st e x s elected a =
    elim a as (λ _. IsOfTerm st e.term x) [
      | inl first ↦ record {
        tip = e.tip;
        ends = record { election = e; among = elected; of_term = refl; is = inl refl };
        descends = subst (λ (z : Spot). Descends st.links e.tip z) (sym first) (s.history.rooted e elected);
      }
      | inr l ↦ elim (cases_lt l.0.entry.term e.term) as (λ _. IsOfTerm st e.term x) [
        | inl earlier ↦ record {
          tip = e.tip;
          ends = record { election = e; among = elected; of_term = refl; is = inl refl };
          descends = through st.links x (site l.0) e.tip (complete root start said st e l.0 s elected l.1 earlier) l.3;
        }
        | inr over ↦
            let upto = l.2 in
            record {
              tip = site l.0;
              ends = record { election = e; among = elected; of_term = refl; is = inr (l.0, l.1.is.among, omega (arith, over, upto), refl) };
              descends = l.3;
            }
      ]
    ]
