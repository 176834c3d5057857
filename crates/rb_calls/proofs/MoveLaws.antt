-- What each move keeps of a node
use Rattle.std.proofs.Common.{ℕ, ◌≡◌, if◌then◌else◌, ◌==◌, eq-eqb, sym, inr, inl, eqb-true, refl, ◌≤◌, ◌+◌, arith, Bool, ◌||◌, ◌&&◌, false, true, ◌<◌, nat_lt, None, Option, nat_le, Result, Ok, Err, min, ap, ◌∙◌, ◌++◌}
use Rattle.std.proofs.lemmas.Bool.{cond-true, or_cases, and_parts, false≢true, ltb-true, leb-false, ltb-false}
use Rattle.rb_raftlog.proofs.TermLaws.{held_in, is_term_is}
use Rattle.rb_raftlog.specs.declared.entry.Entry.{Entry}
use Rattle.rb_raftlog.specs.Log.{is_up_to_date, is_term, term_at, LogValue, compact_fault, compacted}
use Rattle.rb_raftlog.specs.declared.raft_log.CompactFault.{CompactFault}
use Rattle.rb_raftlog.specs.declared.raft_log.LogFault.{LogFault}
use Rattle.rb_tracker.proofs.SetLaws.{if_both}
use Rattle.rb_tracker.specs.Commits.{commit_of}
use Rattle.rb_message.specs.declared.message.Message.{Message}
use Rattle.rb_message.specs.declared.role.Role.{Role}
use Rattle.rb_message.specs.declared.role.Role.TheVariants as role
use Rattle.rb_node.specs.Campaigns.{candidate, precandidate}
use Rattle.rb_node.specs.Leading.{leading, in_lead, can_commit}
use Rattle.rb_node.specs.Node.{PlainNode}
use Rattle.rb_node.specs.Votes.{grants, voted_for, can_vote_for}
use Rattle.rb_calls.specs.Calling.{compacted_at}
use Rattle.rb_calls.proofs.CallWays.{with_members_only}
use Rattle.rb_calls.proofs.Goes.{Ways, Voted, core, Keeps, and_then, same, Core, self}
use Rattle.rb_calls.proofs.LeaderLaws.{leading_same}
use Rattle.rb_calls.proofs.Moves.{IsNext, following, TellMove, Idle, Whole, Commits, StepMove, StepTells, Follows, Asks, Stands, Leads, Votes_for, Appends, Takes, Learns, Restores, ChangeMove, Resigns, in_config, Revises, CallMove, CallChanges, CallSteps, Applies, Fills, Gives_up, Saves, Compacts, Allows}
use Rattle.rb_calls.proofs.Turns.{turned, committed, without_front, with_entry, with_append, with_snapshot, applied_to, filled, all_durable}

-- ---- another term, vote or role

-- a vote of the same term stays
pub reset_vote : (old new v : ℕ) → new ≡ old → (if old == new then v else 0) ≡ v
reset_vote old new v e = cond-true (old == new) v 0 (eq-eqb old new (sym e))

reset_voted : (w : Ways) (n : PlainNode) (term : ℕ) → Voted w (core n) (record (core n) { term = term; vote = if n.term == term then n.vote else 0; role = role.Follower })
reset_voted w n term =
    if_both (λ (v : ℕ). Voted w (core n) (record (core n) { term = term; vote = v; role = role.Follower })) (n.term == term) n.vote 0
    (λ e. inr (inl (sym (eqb-true n.term term e), refl))) (λ _. inl refl)

follows : {w : Ways} (n : PlainNode) (term lead : ℕ) → n.term ≤ term → Keeps w (core n) (core (following n term lead))
follows {w} n term lead up =
    turned (core n) term (if n.term == term then n.vote else 0) role.Follower up
    (λ e _. reset_vote n.term term n.vote e) (λ r _. cc) (λ r _. cc) (reset_voted w n term) (λ r. cc)

becomes_candidate : {w : Ways} (n : PlainNode) → Keeps w (core n) (core (candidate n))
becomes_candidate n = turned (core n) (n.term + 1) n.id role.Candidate (omega arith) (λ e _. absurd (omega (arith, e))) (λ _ e. absurd (omega (arith, e))) (λ r _. cc) (inr (inr (inl refl))) (λ r. cc)

becomes_precandidate : {w : Ways} (n : PlainNode) → Keeps w (core n) (core (precandidate n))
becomes_precandidate n = turned (core n) n.term n.vote role.Precandidate (omega arith) (λ _ _. refl) (λ r _. cc) (λ r _. cc) (inr (inl (refl, refl))) (λ r. cc)

-- who has voted can vote again for the same alone
same_vote : (v w : ℕ) (free x : Bool) → (v == w || (v == 0 && free) || (false && x)) ≡ true → 0 < v → w ≡ v
same_vote v w free x can some =
    elim (or_cases (v == w || (v == 0 && free)) (false && x) can) as (λ _. w ≡ v) [
      | inl either ↦ elim (or_cases (v == w) (v == 0 && free) either) as (λ _. w ≡ v) [
        | inl is ↦ sym (eqb-true v w is)
        | inr none ↦ (let parts = and_parts (v == 0) free none in let zero : v ≡ 0 = eqb-true v 0 parts.0 in absurd (omega (arith, zero, some)))
      ]
      | inr never ↦ absurd (false≢true never)
    ]

gives_vote : {w : Ways} (n : PlainNode) (m : Message) (last_term last_index : ℕ) → (is_up_to_date n.log last_index last_term ≡ true → w.given m.from n.term)
    → grants n m last_term last_index false ≡ true → Keeps w (core n) (core (voted_for n m.from))
gives_vote {w} n m last_term last_index grant gives =
    let parts = and_parts (can_vote_for n m false) (is_up_to_date n.log last_index last_term) gives in
    turned (core n) n.term m.from n.role (omega arith)
    (λ _ some. same_vote n.vote m.from (n.lead == 0) (nat_lt n.term m.term) parts.0 some)
    (λ r _. r) (λ r _. inl r) (inr (inr (inr (grant parts.1)))) (λ r. inl (r, refl))

-- a candidate becomes leader
becomes_leader : {w : Ways} (n : PlainNode) → n.role ≡ role.Candidate → w.elected n.term → Keeps w (core n) (core (leading n))
becomes_leader n stands won =
    and_then
    (turned (core n) n.term (core (in_lead n)).vote role.Leader (omega arith) (λ e _. reset_vote n.term n.term n.vote e) (λ r _. cc) (λ _ _. inr stands)
    (inr (inl (refl, reset_vote n.term n.term n.vote refl))) (λ _. inr won))
    (same (leading_same n))

-- ---- another log or commit

commit_moves : {w : Ways} (n : PlainNode) (i : ℕ) → can_commit n i ≡ true → Keeps w (core n) (core (record n { commit = i }))
commit_moves n i can =
    let parts = and_parts (nat_lt n.commit i) (is_term (term_at n.log i) n.term) can in
    let up = ltb-true n.commit i parts.0 in
    let held = held_in n.log i n.term (is_term_is (term_at n.log i) n.term parts.1) in
    committed (core n) i (omega (arith, up)) (λ _. held.1) (λ _. inr parts.1)

-- what isn't refused lies past the base and at most at what may go
pub compact_within : (v : LogValue) (i upto : ℕ) → compact_fault v i upto ≡ None → (v.base < i) × (i ≤ upto)
compact_within v i upto =
    let P : Option CompactFault → Type 0 = λ o. o ≡ None → (v.base < i) × (i ≤ upto) in
    if_both P (nat_le i v.base) _ _ (λ _ e. cc)
    (λ past. if_both P (nat_lt upto i) _ _ (λ _ e. cc) (λ low e. (leb-false i v.base past, ltb-false upto i low)))

compacts_by : {w : Ways} (r : Result ℕ LogFault) (c : Core) (i : ℕ) → term_at c.log i ≡ r → c.log.base < i → i ≤ c.applied → i ≤ c.log.durable → Keeps w c (record c { log = compacted c.log i r })
compacts_by (Ok term) c i at low known durable = without_front c i term low known durable at
compacts_by (Err fault) c i at low known durable = self c

compacts : {w : Ways} (n : PlainNode) (i : ℕ) → compact_fault n.log i (min n.applied n.log.durable) ≡ None
    → Keeps w (core n) (core (compacted_at n i))
compacts n i is =
    let within = compact_within n.log i (min n.applied n.log.durable) is in
    let far = within.1 in
    compacts_by (term_at n.log i) (core n) i refl within.0 (omega (arith, far)) (omega (arith, far))

-- ---- each move

telling_keeps : {w : Ways} {a b : PlainNode} → TellMove a b → Keeps w (core a) (core b)
telling_keeps (Idle a b e) = same (ap (λ (x : Whole). x.core) e)
telling_keeps (Commits n can) = commit_moves n (commit_of n.tracker) can
telling_keeps _ = same refl

pub no_leader : (r : Role) → r ≡ role.Follower → r ≡ role.Leader → ⊥
no_leader r e f = let no : role.Follower ≡ role.Leader = sym e ∙ f in cc

pub step_keeps : {w : Ways} {a b : PlainNode} → StepMove w a b → Keeps w (core a) (core b)
step_keeps (StepTells m) = telling_keeps m
step_keeps (Follows n term lead up past) = follows n term lead up
step_keeps (Asks n may) = becomes_precandidate n
step_keeps (Stands n may) = becomes_candidate n
step_keeps (Leads n stands elected won) = becomes_leader n stands elected
step_keeps (Votes_for n m last_term last_index transfer gives given came asks of_term) = gives_vote n m last_term last_index (λ _. given) gives
step_keeps (Appends n body pending leads puts marks) = with_entry (core n) (record { term = n.term; body = body })
step_keeps (Takes n from append is came) = with_append (core n) append.prev append.prev_term append.entries (no_leader n.role is)
step_keeps (Learns n i is up held why) = committed (core n) i up held (λ leads. absurd (no_leader n.role is leads))
step_keeps (Restores n s is past came other) = with_snapshot (core n) s past (no_leader n.role is)
step_keeps _ = same refl

pub change_keeps : {w : Ways} {a b : PlainNode} → ChangeMove a b → Keeps w (core a) (core b)
change_keeps (Resigns n c) = follows (in_config n c) n.term 0 (omega arith)
change_keeps (Revises n c leads) = same (ap core (with_members_only (in_config n c)))
change_keeps _ = same refl

takes_effect : {w : Ways} (n : PlainNode) (i : ℕ) (e : Entry) → IsNext n i e → Keeps w (core n) (record (core n) { applied = i })
takes_effect n i e x = (let next = x.next in applied_to (core n) i (omega (arith, next)) x.known x.durable)

pub call_keeps : {sound : Type 0} {w : Ways} → sound → {a b : PlainNode} → CallMove sound w a b → Keeps w (core a) (core b)
call_keeps s (CallChanges m has) = change_keeps m
call_keeps s (CallSteps m) = step_keeps m
call_keeps s (Applies n i e transition words is next) = takes_effect n i e (next s)
call_keeps s (Fills n i e bytes is next) = and_then (takes_effect n i e (next s)) (filled (record (core n) { applied = i }) (n.content ++ bytes))
call_keeps s (Gives_up n) = follows n n.term 0 (omega arith)
call_keeps s (Saves n known) = all_durable (core n)
call_keeps s (Compacts n i is) = compacts n i is
call_keeps s _ = same refl

chained : {w : Ways} (a b c : PlainNode) → Keeps w (core a) (core b) → Keeps w (core b) (core c) → Keeps w (core a) (core c)
chained a b c p q = and_then p q

pub steps_keep : {w : Ways} → Allows (StepMove w) (λ a b. Keeps w (core a) (core b))
steps_keep = record { nothing = λ n. self (core n); chain = chained; each = λ a b m. step_keeps m }

pub calls_keep : {sound : Type 0} {w : Ways} → sound → Allows (CallMove sound w) (λ a b. Keeps w (core a) (core b))
calls_keep s = record { nothing = λ n. self (core n); chain = chained; each = λ a b m. call_keeps s m }
