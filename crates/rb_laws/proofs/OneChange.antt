-- At most one change past the commit of a node, if a term has one leader: what holds of a node holds after each of its moves but taking an append
use Rattle.std.proofs.Common.{◌≡◌, ◌⊎◌, ℕ, ◌+◌, ◌<◌, ◌≤◌, not, List, [], ◌∷◌, ◌++◌, min, None, refl, sym, ap, subst, ◌∙◌, arith, inl, inr, nat_lt}
use Rattle.std.specs.Prelude.{All, Contains}
use Rattle.std.proofs.lemmas.Bool.{and_parts, ltb-true}
use Rattle.std.proofs.lemmas.List.Elements.{All-nil, All-push, All-weaker, Contains-push, Contains-push_cases}
use Rattle.rb_raftlog.specs.declared.entry.Entry.{Entry}
use Rattle.rb_raftlog.specs.Log.{LogValue, last, term_at, is_term, own, compact_fault, compacted, made_durable, restored}
use Rattle.rb_raftlog.specs.declared.snapshot.Snapshot.{Snapshot}
use Rattle.rb_tracker.specs.Active.{others_marked_inactive}
use Rattle.rb_tracker.specs.Commits.{commit_of}
use Rattle.rb_tracker.specs.Configs.{members}
use Rattle.rb_message.specs.declared.kind.MessageKind.{MessageKind}
use Rattle.rb_message.specs.declared.kind.MessageKind.TheVariants as kind
use Rattle.rb_message.specs.declared.message.Message.{Message}
use Rattle.rb_message.specs.declared.role.Role.{Role}
use Rattle.rb_message.specs.declared.role.Role.TheVariants as role
use Rattle.rb_node.specs.Campaigns.{why_no_campaign, candidate}
use Rattle.rb_node.specs.Following.{restored_to}
use Rattle.rb_node.specs.Leading.{leading, in_lead}
use Rattle.rb_node.specs.Node.{PlainNode}
use Rattle.rb_calls.specs.Calling.{compacted_at}
use Rattle.rb_laws.specs.Configurations.{HasOneChangePast}
use Rattle.rb_laws.specs.Honesty.{IsNoAppend}
use Rattle.rb_laws.specs.Rules.{NoChangePast}
use Rattle.rb_calls.specs.Sound.{IsSound}
use Rattle.rb_calls.specs.Words.{SendsBy, AnswersBy}
use Rattle.rb_calls.proofs.CallWays.{with_members_only}
use Rattle.rb_laws.proofs.ChangeCounts.{one_further, one_applied, plain_one, change_one, empty_one, compacted_one, IsPart}
use Rattle.rb_laws.proofs.ChoiceLaws.{may_campaign}
use Rattle.rb_calls.proofs.Goes.{Ways, anyone}
use Rattle.rb_laws.proofs.Holding.{follower_stands, follower_leads, precandidate_stands, precandidate_leads, candidate_leads, leader_stands}
use Rattle.rb_calls.proofs.LeaderLaws.{with_views_only}
use Rattle.rb_laws.proofs.Links.{Link, link, IsLinked, AreSingle, Extends, still_linked, held_term, push_extends, push_single}
use Rattle.rb_laws.proofs.LinkedLogs.{log_from, none_linked, part_linked, own_linked, compacted_linked}
use Rattle.rb_calls.proofs.MoveLaws.{call_keeps, compact_within}
use Rattle.rb_calls.proofs.Moves.{Whole, Allows, TellMove, Idle, Sent, Viewed, Commits, following, StepMove, StepTells, Came, Marks, Passes, Waits, Follows, Asks, Stands, Leads, Appends, Takes, Learns, Restores, ChangeMove, Resigns, Revises, in_config, IsNext, CallMove, CallChanges, CallSteps, Applies, Fills, Unmarks, Gives_up, Saves, Compacts}
use Rattle.rb_laws.proofs.PendingLaws.{own_none, further, nothing_past, compacted_none}
use Rattle.rb_calls.proofs.Turns.{own_size}

-- ---- what this is about

pub record Gist : Type 0 where
  pub id : ℕ
  pub term : ℕ
  pub role : Role
  pub log : LogValue
  pub commit : ℕ
  pub applied : ℕ
  pub pending : ℕ
  pub sent : List Message
  pub waiting : List Message

abbrev pub gist : PlainNode → Gist
gist n = record { id = n.id; term = n.term; role = n.role; log = n.log; commit = n.commit; applied = n.applied; pending = n.pending_change; sent = n.sent; waiting = n.waiting }

abbrev pub IsPartBy : List Link → MessageKind → Type 0
IsPartBy ls (kind.Append append) = IsPart ls append
IsPartBy ls _ = Unit {0}

-- an append that is said is of a log with at most one change past its commit
abbrev pub Fair : List Link → Message → Type 0
Fair ls m = IsPartBy ls m.kind

abbrev pub NoAppend : Message → Type 0
NoAppend m = IsNoAppend m.kind

-- A leader is the one of its term, whose links are in its log. It has at most one change past what it has applied, none past the pending one.
pub record IsLeading (id : ℕ) (leader : ℕ → ℕ) (ls : List Link) (log : LogValue) (term applied pending : ℕ) : Type 0 where
  pub is : leader term ≡ id
  pub within : (l : Link) → Contains ls l → l.entry.term ≡ term → l.index ≤ last log
  pub one : HasOneChangePast log applied
  pub none : NoChangePast log pending

-- Each link was made by the leader of its term.
pub record IsIn (id : ℕ) (leader : ℕ → ℕ) (ls : List Link) (g : Gist) : Type 0 where
  pub itself : g.id ≡ id
  pub single : AreSingle ls
  pub made : (l : Link) → Contains ls l → leader l.entry.term ≡ l.maker
  pub logged : IsLinked ls g.log
  pub sent : All (Fair ls) g.sent
  pub waiting : All NoAppend g.waiting
  pub past : (l : Link) → Contains ls l → l.maker ≡ id → l.entry.term ≤ g.term
  pub stands : g.role ≡ role.Candidate → (l : Link) → Contains ls l → l.maker ≡ id → l.entry.term ≡ g.term → ⊥
  pub one : HasOneChangePast g.log g.commit
  pub candidate : g.role ≡ role.Candidate → HasOneChangePast g.log g.applied
  pub leads : g.role ≡ role.Leader → IsLeading id leader ls g.log g.term g.applied g.pending

-- a node before it is called
pub record World : Type 0 where
  pub id : ℕ
  pub leader : ℕ → ℕ
  pub links : List Link

-- the links now: those before the call, and those that the node has made in it
pub record Holds (w : World) (n : PlainNode) : Type 0 where
  pub links : List Link
  pub since : Extends w.links links
  pub own : (l : Link) → Contains links l → Contains w.links l ⊎ (l.maker ≡ w.id)
  pub holds : IsIn w.id w.leader links (gist n)

-- by the same links
pub by : {w : World} {a b : PlainNode} → Holds w a → ((ls : List Link) → Extends w.links ls → IsIn w.id w.leader ls (gist a) → IsIn w.id w.leader ls (gist b)) → Holds w b
by h f = record { links = h.links; since = h.since; own = h.own; holds = f h.links h.since h.holds }

-- ---- of one term and role, or of others

pub still : {id : ℕ} {leader : ℕ → ℕ} {ls : List Link} (a : Gist) (log : LogValue) (commit applied : ℕ) (sent waiting : List Message) → IsLinked ls log → All (Fair ls) sent → All NoAppend waiting → HasOneChangePast log commit
    → (a.role ≡ role.Candidate → HasOneChangePast log applied) → (a.role ≡ role.Leader → (last a.log ≤ last log) × HasOneChangePast log applied × NoChangePast log a.pending)
    → IsIn id leader ls a → IsIn id leader ls (record a { log = log; commit = commit; applied = applied; sent = sent; waiting = waiting })
still a log commit applied sent waiting logged says answers one candidate leads h = record {
  itself = h.itself;
  single = h.single;
  made = h.made;
  logged = logged;
  sent = says;
  waiting = answers;
  past = h.past;
  stands = h.stands;
  one = one;
  candidate = candidate;
  leads = λ is.
      (let l = h.leads is in
      let now = leads is in
      record { is = l.is; within = λ x among term. (let low = l.within x among term in let longer = now.0 in omega (arith, low, longer)); one = now.1; none = now.2 });
}

-- with another commit and other messages
abbrev tells : {id : ℕ} {leader : ℕ → ℕ} {ls : List Link} (a : Gist) (commit : ℕ) (sent waiting : List Message) → a.commit ≤ commit → All (Fair ls) sent → All NoAppend waiting → IsIn id leader ls a → IsIn id leader ls (record a { commit = commit; sent = sent; waiting = waiting })
tells a commit sent waiting up says answers h =
    still a a.log commit a.applied sent waiting h.logged says answers (one_further a.log a.commit commit up h.one) h.candidate (λ is. (let l = h.leads is in (omega arith, l.one, l.none))) h

-- what is applied rises
applies : {id : ℕ} {leader : ℕ → ℕ} {ls : List Link} (a : Gist) (applied : ℕ) → a.applied ≤ applied → IsIn id leader ls a → IsIn id leader ls (record a { applied = applied })
applies a applied up h =
    still a a.log a.commit applied a.sent a.waiting h.logged h.sent h.waiting h.one (λ is. one_further a.log a.applied applied up (h.candidate is))
    (λ is. (let l = h.leads is in (omega arith, one_further a.log a.applied applied up l.one, l.none))) h

pub turned : {id : ℕ} {leader : ℕ → ℕ} {ls : List Link} (a : Gist) (term : ℕ) (r : Role) (pending : ℕ) → a.term ≤ term → (r ≡ role.Candidate → (a.term < term) × HasOneChangePast a.log a.applied)
    → (r ≡ role.Leader → IsLeading id leader ls a.log term a.applied pending) → IsIn id leader ls a → IsIn id leader ls (record a { term = term; role = r; pending = pending })
turned a term r pending later stands leads h = record {
  itself = h.itself;
  single = h.single;
  made = h.made;
  logged = h.logged;
  sent = h.sent;
  waiting = h.waiting;
  past = λ l among own. (let low = h.past l among own in omega (arith, low, later));
  stands = λ is l among own same. (let low = h.past l among own in let up = (stands is).0 in omega (arith, low, up, same));
  one = h.one;
  candidate = λ is. (stands is).1;
  leads = leads;
}

pub follows_in : {id : ℕ} {leader : ℕ → ℕ} {ls : List Link} (n : PlainNode) (term lead : ℕ) → n.term ≤ term → IsIn id leader ls (gist n) → IsIn id leader ls (gist (following n term lead))
follows_in n term lead later h = turned (gist n) term role.Follower 0 later (λ no. absurd (follower_stands no)) (λ no. absurd (follower_leads no)) h

-- ---- more links

part_still : (old new : List Link) (k : MessageKind) → Extends old new → IsPartBy old k → IsPartBy new k
part_still old new (kind.Append append) more p = record {
  log = p.log;
  low = p.low;
  linked = still_linked old new p.log more p.linked;
  chain = still_linked old new (log_from append.prev append.prev_term append.entries) more p.chain;
  entries = p.entries;
  one = p.one;
}
part_still old new _ more p = tt

pub still_fair : (old new : List Link) (ms : List Message) → Extends old new → All (Fair old) ms → All (Fair new) ms
still_fair old new ms more all = All-weaker (Fair old) (Fair new) (λ m p. part_still old new m.kind more p) ms all

pub none_fair : (ls : List Link) (k : MessageKind) → IsNoAppend k → IsPartBy ls k
none_fair ls (kind.Append append) none = absurd none
none_fair ls _ none = tt

-- ---- what is said

sends_fair : (ls : List Link) (k : MessageKind) (n : PlainNode) (m : Message) → SendsBy k n m → IsSound n → IsLinked ls n.log → HasOneChangePast n.log n.commit → IsPartBy ls k
sends_fair ls (kind.Append append) n m sent s linked one =
    (let of = sent.3 in
    let base = s.past_base in
    let known = s.is_committed in
    let commit = of.commit in
    record {
      log = n.log;
      low = omega (arith, base, known, commit);
      linked = linked;
      chain = part_linked ls n.log append.prev append.prev_term append.entries of.past_base of.prev_term of.entries linked;
      entries = of.entries;
      one = subst (HasOneChangePast n.log) (sym commit) one;
    })
sends_fair ls _ n m sent s linked one = tt

answers_none : (k : MessageKind) (n : PlainNode) (m : Message) → AnswersBy k n m → IsNoAppend k
answers_none (kind.Append append) n m answer = absurd answer
answers_none _ n m answer = tt

abbrev of_whole : Whole → Gist
of_whole x = record {
  id = x.core.id;
  term = x.core.term;
  role = x.core.role;
  log = x.core.log;
  commit = x.core.commit;
  applied = x.core.applied;
  pending = x.pending;
  sent = x.words.sent;
  waiting = x.words.waiting;
}

says : {w : World} (n : PlainNode) (m : Message) → ((ls : List Link) → IsIn w.id w.leader ls (gist n) → IsPartBy ls m.kind) → Holds w n → Holds w (record n { sent = n.sent ++ m ∷ [] })
says n m fair h = by h (λ ls _ i. tells (gist n) n.commit (n.sent ++ m ∷ []) n.waiting (omega arith) (All-push (Fair ls) n.sent m i.sent (fair ls i)) i.waiting i)

pub waits : {w : World} (n : PlainNode) (m : Message) → IsNoAppend m.kind → Holds w n → Holds w (record n { waiting = n.waiting ++ m ∷ [] })
waits n m none h = by h (λ ls _ i. tells (gist n) n.commit n.sent (n.waiting ++ m ∷ []) (omega arith) i.sent (All-push NoAppend n.waiting m i.waiting none) i)

commits_to : {w : World} (n : PlainNode) (i : ℕ) → n.commit ≤ i → Holds w n → Holds w (record n { commit = i })
commits_to n i up h = by h (λ ls _ x. tells (gist n) i n.sent n.waiting up x.sent x.waiting x)

-- ---- campaigns, and the lead

stands_in : {id : ℕ} {leader : ℕ → ℕ} {ls : List Link} (n : PlainNode) → why_no_campaign n ≡ None → IsSound n → IsIn id leader ls (gist n) → IsIn id leader ls (gist (candidate n))
stands_in n may s h =
    turned (gist n) (n.term + 1) role.Candidate 0 (omega arith) (λ _. (omega arith, one_applied n.log n.applied n.commit s.past_base (may_campaign n may).no_change h.one))
    (λ no. absurd (candidate_leads no)) h

-- a candidate has made no link of its term, and nobody else has
leads_in : {id : ℕ} {leader : ℕ → ℕ} {ls : List Link} (n : PlainNode) → n.role ≡ role.Candidate → leader n.term ≡ id → IsIn id leader ls (gist n) → IsIn id leader ls (gist (leading n))
leads_in {id} {leader} {ls} n stands is h =
    let new : Gist = record (gist n) { role = role.Leader; pending = last n.log } in
    let same : gist (leading n) ≡ new = ap (λ (x : PlainNode). gist (record x { pending_change = last n.log })) (with_views_only (in_lead n) (members n.tracker.config) (not n.options.check_quorum)) in
    subst (IsIn id leader ls) (sym same)
    (turned (gist n) n.term role.Leader (last n.log) (omega arith) (λ no. absurd (leader_stands no))
    (λ _. record {
      is = is;
      within = λ l among term. absurd (h.stands stands l among (sym (h.made l among) ∙ ap leader term ∙ is) term);
      one = h.candidate stands;
      none = nothing_past n.log;
    }) h)

-- ---- an entry of its own

abbrev marked : PlainNode → Entry → ℕ → PlainNode
marked n e pending = record n { log = own n.log e; pending_change = pending }

-- how many changes the log then has, past what is applied and past the pending one
record IsCounted (v : LogValue) (commit applied pending : ℕ) : Type 0 where
  one : HasOneChangePast v commit
  few : HasOneChangePast v applied
  none : NoChangePast v pending

counted : (n : PlainNode) (e : Entry) (pending : ℕ) → Marks n e.body pending → n.applied ≤ n.commit → HasOneChangePast n.log n.commit → HasOneChangePast n.log n.applied → NoChangePast n.log n.pending_change → IsCounted (own n.log e) n.commit n.applied pending
counted n e pending marks known one few none =
    elim marks as (λ _. IsCounted (own n.log e) n.commit n.applied pending) [
      | inl plain ↦ record {
        one = plain_one n.log e n.commit plain.0 one;
        few = plain_one n.log e n.applied plain.0 few;
        none = subst (NoChangePast (own n.log e)) (sym plain.1) (own_none n.log e n.pending_change (inl plain.0) none);
      }
      | inr change ↦
          let low = change.0 in
          let first : HasOneChangePast (own n.log e) n.applied = change_one n.log e n.applied (further n.log n.pending_change n.applied low none) in
          record {
            one = one_further (own n.log e) n.applied n.commit known first;
            few = first;
            none = subst (NoChangePast (own n.log e)) (sym change.1)
                (own_none n.log e (last n.log + 1) (inr (omega arith)) (further n.log (last n.log) (last n.log + 1) (omega arith) (nothing_past n.log)));
          }
    ]

own_in : {id : ℕ} {leader : ℕ → ℕ} (ls : List Link) (n : PlainNode) (e : Entry) (pending before : ℕ) → Contains (ls ++ link (last n.log + 1) e before id ∷ []) (link (last n.log + 1) e before id) → e.term ≡ n.term → n.role ≡ role.Leader → Marks n e.body pending → IsSound n
    → before ≡ (held_term n.log (last n.log) (omega arith) (omega arith)).0 → IsIn id leader ls (gist n) → IsIn id leader (ls ++ link (last n.log + 1) e before id ∷ []) (gist (marked n e pending))
own_in {id} {leader} ls n e pending before there same leads marks s is h =
    let l = link (last n.log + 1) e before id in
    let new = ls ++ l ∷ [] in
    let more = push_extends ls l in
    let held = held_term n.log (last n.log) (omega arith) (omega arith) in
    let size = own_size n.log e in
    let lead = h.leads leads in
    let known = s.is_committed in
    let counts = counted n e pending marks known h.one lead.one lead.none in
    let led : leader e.term ≡ id = ap leader same ∙ lead.is in
    record {
      itself = h.itself;
      single = push_single ls l (λ m among index term. (let low = lead.within m among (term ∙ same) in omega (arith, low, index))) h.single;
      made = λ m among.
          elim (Contains-push_cases ls l m among) as (λ _. leader m.entry.term ≡ m.maker) [
            | inl old ↦ h.made m old
            | inr now ↦ subst (λ (z : Link). leader z.entry.term ≡ z.maker) now led
          ];
      logged = own_linked new n.log e held.0 (still_linked ls new n.log more h.logged) held.1 (id, subst (λ (b : ℕ). Contains new (link (last n.log + 1) e b id)) is there);
      sent = still_fair ls new n.sent more h.sent;
      waiting = h.waiting;
      past = λ m among own.
          elim (Contains-push_cases ls l m among) as (λ _. m.entry.term ≤ n.term) [
            | inl old ↦ h.past m old own
            | inr now ↦ (let term = ap (λ (z : Link). z.entry.term) now in omega (arith, term, same))
          ];
      stands = λ no. absurd (leader_stands (sym leads ∙ no));
      one = counts.one;
      candidate = λ no. absurd (leader_stands (sym leads ∙ no));
      leads = λ _. record {
        is = lead.is;
        within = λ m among term.
            elim (Contains-push_cases ls l m among) as (λ _. m.index ≤ last (own n.log e)) [
              | inl old ↦ (let low = lead.within m old term in omega (arith, low, size))
              | inr now ↦ (let index = ap (λ (z : Link). z.index) now in omega (arith, index, size))
            ];
        one = counts.few;
        none = counts.none;
      };
    }

owns : {w : World} (n : PlainNode) (e : Entry) (pending : ℕ) → e.term ≡ n.term → n.role ≡ role.Leader → Marks n e.body pending → IsSound n → Holds w n → Holds w (marked n e pending)
owns {w} n e pending same leads marks s h =
    let before : ℕ = (held_term n.log (last n.log) (omega arith) (omega arith)).0 in
    let l = link (last n.log + 1) e before w.id in
    record {
      links = h.links ++ l ∷ [];
      since = λ m among. push_extends h.links l m (h.since m among);
      own = λ m among.
          elim (Contains-push_cases h.links l m among) as (λ _. Contains w.links m ⊎ (m.maker ≡ w.id)) [
            | inl old ↦ h.own m old
            | inr now ↦ inr (sym (ap (λ (z : Link). z.maker) now))
          ];
      holds = own_in h.links n e pending before (Contains-push h.links l) same leads marks s refl h.holds;
    }

-- ---- each move

-- no append comes, and whoever is elected is the leader of the term
pub record Hears (w : World) (v : Ways) : Type 0 where
  pub none : (m : Message) → v.came m → IsNoAppend m.kind
  pub elects : (term : ℕ) → v.elected term → w.leader term ≡ w.id

came_none : {w : World} {v : Ways} (k : MessageKind) → Hears w v → Came v k → IsNoAppend k
came_none k hears came = subst IsNoAppend came.is (hears.none came.message came.comes)

telling_holds : {w : World} {a b : PlainNode} → TellMove a b → IsSound a → Holds w a → Holds w b
telling_holds {w} (Idle a b e) s h = by h (λ ls _ i. subst (IsIn w.id w.leader ls) (ap of_whole (sym e)) i)
telling_holds (Sent n m own sent) s h = says n m (λ ls i. sends_fair ls m.kind n m (sent s).1 s i.logged i.one) h
telling_holds (Viewed n at view new is same sound) s h = by h (λ _ _ i. i)
telling_holds (Commits n can) s h =
    (let i = commit_of n.tracker in
    let up = ltb-true n.commit i (and_parts (nat_lt n.commit i) (is_term (term_at n.log i) n.term) can).0 in
    commits_to n i (omega (arith, up)) h)

restores : {w : World} (n : PlainNode) (s : Snapshot) → n.role ≡ role.Follower → Holds w n → Holds w (restored_to n s)
restores n s follows h =
    let log : LogValue = restored n.log s in
    by h (λ ls _ i. still (gist n) log s.index s.index n.sent n.waiting (none_linked ls log refl) i.sent i.waiting (empty_one log s.index refl)
    (λ stands. absurd (follower_stands (sym follows ∙ stands))) (λ leads. absurd (follower_leads (sym follows ∙ leads))) i)

step_holds : {w : World} {v : Ways} → Hears w v → {a b : PlainNode} → StepMove v a b → IsSound a → Holds w a → Holds w b
step_holds hears (StepTells m) s h = telling_holds m s h
step_holds hears (Passes n m came sent) s h = says n m (λ ls _. none_fair ls m.kind (came_none m.kind hears came)) h
step_holds hears (Waits n m answer may) s h = waits n m (answers_none m.kind n m (answer s).1) h
step_holds hears (Follows n term lead up past) s h = by h (λ ls _ i. follows_in n term lead up i)
step_holds hears (Asks n may) s h =
    by h (λ ls _ i. turned (gist n) n.term role.Precandidate n.pending_change (omega arith) (λ no. absurd (precandidate_stands no)) (λ no. absurd (precandidate_leads no)) i)
step_holds hears (Stands n may) s h = by h (λ ls _ i. stands_in n may s i)
step_holds hears (Leads n stands elected won) s h = by h (λ ls _ i. leads_in n stands (hears.elects n.term elected) i)
step_holds hears (Appends n body pending leads puts marks) s h = owns n (record { term = n.term; body = body }) pending refl leads marks s h
step_holds hears (Takes n from append is came) s h = absurd (came_none (kind.Append append) hears came.came)
step_holds hears (Learns n i is up held why) s h = commits_to n i up h
step_holds hears (Restores n snapshot is past came other) s h = restores n snapshot is h
step_holds hears _ s h = by h (λ _ _ i. i)

change_holds : {w : World} {a b : PlainNode} → ChangeMove a b → Holds w a → Holds w b
change_holds (Resigns n c) h = by h (λ ls _ i. follows_in (in_config n c) n.term 0 (omega arith) i)
change_holds {w} (Revises n c leads) h = by h (λ ls _ i. subst (λ (x : PlainNode). IsIn w.id w.leader ls (gist x)) (sym (with_members_only (in_config n c))) i)
change_holds _ h = by h (λ _ _ i. i)

applied_holds : {w : World} (n : PlainNode) (i : ℕ) (e : Entry) → IsNext n i e → Holds w n → Holds w (record n { applied = i })
applied_holds n i e x h = (let next = x.next in by h (λ ls _ y. applies (gist n) i (omega (arith, next)) y))

compacts_holds : {w : World} (n : PlainNode) (i : ℕ) → compact_fault n.log i (min n.applied n.log.durable) ≡ None → IsSound n → Holds w n
    → Holds w (compacted_at n i)
compacts_holds n i is s h =
    let low = (compact_within n.log i (min n.applied n.log.durable) is).0 in
    let log : LogValue = compacted n.log i (term_at n.log i) in
    let fewer : (k : ℕ) → HasOneChangePast n.log k → HasOneChangePast log k = λ k one. compacted_one n.log i (term_at n.log i) k low one in
    by h (λ ls _ x. still (gist n) log n.commit n.applied n.sent n.waiting (compacted_linked ls n.log i (term_at n.log i) low refl x.logged) x.sent x.waiting (fewer n.commit x.one)
    (λ stands. fewer n.applied (x.candidate stands))
    (λ leads. (let l = x.leads leads in
    ((((call_keeps {sound = Unit {0}} {w = anyone} tt (Compacts n i is)).goes s).own leads leads refl).longer, fewer n.applied l.one, compacted_none n.log i n.pending_change (term_at n.log i) low l.none))) x)

call_holds : {w : World} {v : Ways} {sound : Type 0} → sound → Hears w v → {a b : PlainNode} → CallMove sound v a b → IsSound a → Holds w a → Holds w b
unfolding others_marked_inactive
call_holds known hears (CallChanges m has) s h = change_holds m h
call_holds known hears (CallSteps m) s h = step_holds hears m s h
call_holds known hears (Applies n i e transition words is next) s h = applied_holds n i e (next known) h
call_holds known hears (Fills n i e bytes is next) s h = by (applied_holds n i e (next known) h) (λ _ _ x. x)
call_holds known hears (Unmarks n) s h = by h (λ _ _ i. i)
call_holds known hears (Gives_up n) s h = by h (λ ls _ i. follows_in n n.term 0 (omega arith) i)
call_holds known hears (Saves n sound) s h =
    by h (λ ls _ i. still (gist n) (made_durable n.log) n.commit n.applied [] [] i.logged (All-nil (Fair ls)) (All-nil NoAppend) i.one i.candidate (λ is. (let l = i.leads is in (omega arith, l.one, l.none))) i)
call_holds known hears (Compacts n i is) s h = compacts_holds n i is s h

pub moves_hold : {w : World} {v : Ways} {sound : Type 0} → sound → Hears w v → Allows (CallMove sound v) (λ a b. IsSound a × Holds w a → IsSound b × Holds w b)
moves_hold known hears = record {
  nothing = λ n p. p;
  chain = λ a b c p q r. q (p r);
  each = λ a b m p. (((call_keeps known m).goes p.0).ordered, call_holds known hears m p.0 p.1);
}
