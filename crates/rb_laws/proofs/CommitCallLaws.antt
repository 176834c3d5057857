-- Each call of a leader commits what it may commit
use Rattle.std.proofs.Common.{◌≡◌, ℕ, ◌+◌, ◌<◌, ◌≤◌, Bool, true, false, not, ◌==◌, nat_le, min, List, [], ◌∷◌, Option, Some, None, Result, Ok, Err, refl, ap, sym, subst, ◌∙◌, arith, if◌then◌else◌, inl, inr}
use Rattle.rb_raftlog.specs.declared.entry.Body.{Body}
use Rattle.rb_raftlog.specs.declared.entry.Body.TheVariants.{Payload, Change}
use Rattle.rb_raftlog.specs.declared.entry.Entry.{Entry}
use Rattle.rb_raftlog.specs.declared.raft_log.CompactFault.{CompactFault}
use Rattle.rb_raftlog.specs.Log.{LogValue, last, term_at, is_term, compact_fault}
use Rattle.rb_vocab.specs.declared.change.Transition.{Transition}
use Rattle.rb_vocab.specs.declared.change.Transition.TheVariants.{Auto}
use Rattle.rb_vocab.specs.declared.change.Word.{Word}
use Rattle.rb_tracker.proofs.SetLaws.{if_both}
use Rattle.rb_tracker.specs.Active.{others_marked_inactive}
use Rattle.rb_tracker.specs.Changes.{changed}
use Rattle.rb_tracker.specs.Configs.{members, is_member}
use Rattle.rb_tracker.specs.Trackers.{ids_of, AreInOrder}
use Rattle.rb_tracker.specs.declared.changes.ChangeFault.{ChangeFault}
use Rattle.rb_tracker.specs.declared.config.Config.{Config}
use Rattle.rb_message.specs.declared.event.EventKind.TheVariants as event
use Rattle.rb_message.specs.Events.{event_at}
use Rattle.rb_message.specs.declared.kind.MessageKind.{MessageKind}
use Rattle.rb_message.specs.declared.kind.MessageKind.TheVariants as kind
use Rattle.rb_message.specs.declared.message.Message.{Message}
use Rattle.rb_message.specs.declared.role.Role.{Role}
use Rattle.rb_message.specs.declared.role.Role.TheVariants as role
use Rattle.rb_node.specs.Changing.{without_views, missing, transfer_to_non_member_cancelled, views_updated, steps_down, switched, change_applied, body_applied, applied_one, applied_all, leaves_joint, joint_left}
use Rattle.rb_node.specs.Leading.{appended, appended_change, is_log_full, all_sent_append, leading, in_lead, became_leader}
use Rattle.rb_node.specs.Node.{PlainNode, NodeStep, with_event, with_node, with_elapsed, is_leader, message}
use Rattle.rb_node.specs.Readying.{saved, applying, own_answers_stepped, advanced}
use Rattle.rb_node.specs.Step.{as_follower, as_leader, by_role_of, at_term_by, stepped}
use Rattle.rb_node.specs.Terms.{became_follower, stepped_earlier_by, stepped_later_by}
use Rattle.rb_node.specs.Ticking.{due_heartbeats_sent, has_lost_quorum, activity_reset, active_quorum_checked, counters_advanced, leader_ticked, ticked_by}
use Rattle.rb_node.specs.Transferring.{transfer_ended}
use Rattle.rb_node.specs.declared.limits.TheConstants.{ELECTION_TICKS}
use Rattle.rb_calls.specs.Calling.{Call, Step, Campaign, Propose, Transfer, Tick, Advance, ForgetLeader, ReportUnreachable, SetTimeout, Compact, compacted_at, compacted_unless, after, run}
use Rattle.rb_laws.specs.Committing.{HasCommittedAll}
use Rattle.rb_calls.specs.Elections.{own_turn}
use Rattle.rb_calls.specs.Sound.{IsSound, HasViewsOfMembers}
use Rattle.rb_calls.proofs.CallLaws.{calls, runs}
use Rattle.rb_calls.proofs.CallWays.{change_way, follower_of, forgotten_way, reported_way, beats_due_way, with_members_only, ready_way}
use Rattle.rb_laws.proofs.ChoiceLaws.{may_campaign}
use Rattle.rb_laws.proofs.CommitAllLaws.{IsWithin, still_all, telling_all, tells_all, checked_commit_all, accepted_all, own_all}
use Rattle.rb_calls.proofs.Goes.{Ways, Core, Goes, Keeps, anyone, core, self, and_then, anyhow, goes_then, middle_term, middle_leads}
use Rattle.rb_calls.proofs.LeaderLaws.{leading_same, strangers_only}
use Rattle.rb_calls.proofs.LeaderWays.{transfer_ended_way}
use Rattle.rb_calls.proofs.MatchViewLaws.{of, with_views_at_most, strangers_less, unmarked_match}
use Rattle.rb_laws.proofs.MemberMoveLaws.{telling_members, change_members, called_members}
use Rattle.rb_calls.proofs.MoveLaws.{no_leader, step_keeps, call_keeps, calls_keep}
use Rattle.rb_calls.proofs.Moves.{StepMove, StepTells, Follows, Asks, Stands, Leads, Appends, Takes, Learns, Restores, Acks, ChangeMove, Unchanged, Configures, Resigns, Revises, in_config, with_members, Compacts, TellMove, Path, Allows, over, over_way}
use Rattle.rb_laws.proofs.SendLaws.{append_broadcast_only}
use Rattle.rb_laws.proofs.StepCases.{by_term}
use Rattle.rb_calls.proofs.StepWays.{campaigned_way, stepped_way}
use Rattle.rb_calls.proofs.TellWays.{Rest, keeps_rest, append_broadcast_way}
use Rattle.rb_calls.proofs.Turns.{all_durable}

-- a leader that leads on in its term commits what it may
pub record LeavesNone (a b : PlainNode) : Type 0 where
  pub keeps : Keeps anyone (core a) (core b)
  pub all : IsSound a → a.role ≡ role.Leader → b.role ≡ role.Leader → b.term ≡ a.term → HasCommittedAll a → HasCommittedAll b

chained : (a b c : PlainNode) → LeavesNone a b → LeavesNone b c → LeavesNone a c
chained a b c p q = record {
  keeps = and_then p.keeps q.keeps;
  all = λ s first end same h.
      (let g = p.keeps.goes s in
      let k = q.keeps.goes g.ordered in
      let leads = middle_leads (core a) (core b) (core c) g k first end same in
      let at : b.term ≡ a.term = middle_term (core a) (core b) (core c) g k same in
      q.all g.ordered leads end (same ∙ sym at) (p.all s first leads at h));
}

nothing : (n : PlainNode) → LeavesNone n n
nothing n = record { keeps = self (core n); all = λ s first end same h. h }

-- ---- moves without a member's answer

abbrev unanswered : Ways
unanswered = record { given = λ _ _. Unit {0}; elected = λ _. Unit {0}; matched = λ _ _ _. ⊥; came = λ _. Unit {0} }

candidates_follow : (r : Role) → r ≡ role.Candidate → r ≡ role.Leader → ⊥
candidates_follow r stands leads = let no : role.Candidate ≡ role.Leader = sym stands ∙ leads in cc

step_all : {a b : PlainNode} → StepMove unanswered a b → a.role ≡ role.Leader → b.term ≡ a.term → HasCommittedAll a → HasCommittedAll b
step_all (StepTells m) leads same h = telling_all m h
step_all (Follows n term lead up past) leads same h = (let later = past leads in absurd (omega (arith, later, same)))
step_all (Asks n may) leads same h = absurd ((may_campaign n may).follows leads)
step_all (Stands n may) leads same h = absurd ((may_campaign n may).follows leads)
step_all (Leads n stands elected won) leads same h = absurd (candidates_follow n.role stands leads)
step_all (Appends n body pending is puts marks) leads same h = (let x = own_all n (record { term = n.term; body = body }) h in record { within = x.within; all = x.all })
step_all (Takes n from append is came) leads same h = absurd (no_leader n.role is leads)
step_all (Learns n i is up held why) leads same h = absurd (no_leader n.role is leads)
step_all (Restores n s is past came other) leads same h = absurd (no_leader n.role is leads)
step_all (Acks n at from i view is here found up said) leads same h = absurd said
step_all _ leads same h = record { within = h.within; all = h.all }

steps_all : Allows (StepMove unanswered) LeavesNone
steps_all = record {
  nothing = nothing;
  chain = chained;
  each = λ a b m. record { keeps = anyhow (step_keeps m); all = λ s first end same h. step_all m first same h };
}

-- ---- a message

answered : (t : NodeStep) (m : Message) (i : ℕ) → m.kind ≡ kind.AppendResponse i → t.node.role ≡ role.Leader → (stepped t m).node.term ≡ t.node.term → HasCommittedAll t.node → HasCommittedAll (stepped t m).node
answered t m i is leads same h =
    by_term (λ (u : NodeStep). u.node.term ≡ t.node.term → HasCommittedAll u.node) t m
    (λ _. subst (λ (k : MessageKind). (at_term_by k t m).node.term ≡ t.node.term → HasCommittedAll (at_term_by k t m).node) (sym is)
    (subst (λ (r : Role). (by_role_of r t m).node.term ≡ t.node.term → HasCommittedAll (by_role_of r t m).node) (sym leads)
    (subst (λ (k : MessageKind). (as_leader k t m).node.term ≡ t.node.term → HasCommittedAll (as_leader k t m).node) (sym is) (λ _. accepted_all t m i h))))
    (λ _. subst (λ (k : MessageKind). (stepped_earlier_by k t m).node.term ≡ t.node.term → HasCommittedAll (stepped_earlier_by k t m).node) (sym is) (λ _. h))
    (λ _ _ _. h)
    (λ later _. (let u : NodeStep = became_follower t m.term 0 in
    subst (λ (k : MessageKind). (at_term_by k (stepped_later_by k t m) m).node.term ≡ t.node.term → HasCommittedAll (at_term_by k (stepped_later_by k t m) m).node) (sym is)
    (subst (λ (k : MessageKind). (as_follower k u m).node.term ≡ t.node.term → HasCommittedAll (as_follower k u m).node) (sym is)
    (λ now. absurd (omega (arith, later, now))))))
    same

by_kind : (k : MessageKind) (t : NodeStep) (m : Message) → m.kind ≡ k → LeavesNone t.node (stepped t m).node
by_kind (kind.AppendResponse i) t m is = record { keeps = anyhow (calls (Step m) t); all = λ s leads end same h. answered t m i is leads same h }
by_kind _ t m is = over steps_all (stepped_way t m tt (λ _. tt) (λ _. tt) (λ i a. (let no = sym is ∙ a.says in cc)))

pub step_leaves : (t : NodeStep) (m : Message) → LeavesNone t.node (stepped t m).node
step_leaves t m = by_kind m.kind t m refl

-- ---- a tick

reset_all : (n : PlainNode) → HasCommittedAll n → HasCommittedAll (activity_reset n)
unfolding others_marked_inactive
reset_all n h =
    if_both HasCommittedAll n.options.check_quorum _ _
    (λ _. still_all n (record n { tracker = others_marked_inactive n.tracker n.id }) refl (λ id. unmarked_match n.id n.tracker.views id) (omega arith) refl (omega arith) (λ i _ _. refl) h)
    (λ _. h)

no_follower : role.Follower ≡ role.Leader → ⊥
no_follower e = cc

looked_all : (t : NodeStep) → HasCommittedAll t.node → (active_quorum_checked t).node.role ≡ role.Leader → HasCommittedAll (active_quorum_checked t).node
unfolding active_quorum_checked
looked_all t h =
    let v : NodeStep = with_node t (activity_reset t.node) in
    let u : NodeStep = transfer_ended v in
    if_both (λ (x : NodeStep). x.node.role ≡ role.Leader → HasCommittedAll x.node) (has_lost_quorum t.node) _ (with_node u (due_heartbeats_sent u.node))
    (λ _ no. absurd (no_follower no))
    (λ _ _. over tells_all (beats_due_way u) (over tells_all (transfer_ended_way v) (reset_all t.node h)))

tick_all : (t : NodeStep) → HasCommittedAll t.node → (leader_ticked t).node.role ≡ role.Leader → HasCommittedAll (leader_ticked t).node
unfolding leader_ticked
tick_all t h =
    let n : PlainNode = counters_advanced t.node in
    if_both (λ (x : NodeStep). x.node.role ≡ role.Leader → HasCommittedAll x.node) (nat_le ELECTION_TICKS n.clock.elapsed) (active_quorum_checked (with_node t (with_elapsed n 0))) _
    (λ _. looked_all (with_node t (with_elapsed n 0)) (record { within = h.within; all = h.all }))
    (λ _ _. over tells_all (beats_due_way (with_node t n)) (record { within = h.within; all = h.all }))

role_ticked : (r : Role) (t : NodeStep) → r ≡ role.Leader → HasCommittedAll t.node → (ticked_by r t).node.role ≡ role.Leader → HasCommittedAll (ticked_by r t).node
role_ticked role.Leader t leads h = tick_all t h
role_ticked role.Follower t leads h = cc
role_ticked role.Precandidate t leads h = cc
role_ticked role.Candidate t leads h = cc

-- ---- a change that takes effect

cancelled_within : (t : NodeStep) → IsWithin t.node → IsWithin (transfer_to_non_member_cancelled t).node
unfolding transfer_ended
cancelled_within t h =
    if_both (λ (u : NodeStep). IsWithin u.node) (is_member t.node.tracker.config t.node.transferee) t (transfer_ended t) (λ _. h)
    (λ _. if_both (λ (u : NodeStep). IsWithin u.node) (t.node.transferee == 0) _ _ (λ _. h) (λ _. h))

members_within : (n : PlainNode) → AreInOrder n.tracker.views → n.log.durable ≤ last n.log → IsWithin n → IsWithin (with_members n)
members_within n up written within id =
    let ids = ids_of n.tracker.views in
    let left = without_views n ids in
    let y = with_members n in
    let fewer = strangers_less n ids id up in
    let was = within id in
    let same : last y.log ≡ last n.log = ap (λ (x : PlainNode). last x.log) (with_members_only n) in
    let durable : left.log.durable ≡ n.log.durable = ap (λ (x : PlainNode). x.log.durable) (strangers_only n ids) in
    elim (with_views_at_most left (missing left.tracker.views (members left.tracker.config)) true id) as (λ _. of y id ≤ last y.log) [
      | inl less ↦ omega (arith, less, fewer, was, same)
      | inr own ↦ (let low = own.1 in omega (arith, low, durable, written, same))
    ]

revised_all : (t : NodeStep) → AreInOrder t.node.tracker.views → t.node.log.durable ≤ last t.node.log → IsWithin t.node → HasCommittedAll (views_updated t).node
unfolding views_updated
revised_all t up written within =
    let u : NodeStep = with_node t (with_members t.node) in
    let left = without_views t.node (ids_of t.node.tracker.views) in
    checked_commit_all (transfer_to_non_member_cancelled u).node (missing left.tracker.views (members left.tracker.config)) (cancelled_within u (members_within t.node up written within))

switched_all : (r : Result Config ChangeFault) (t : NodeStep) → AreInOrder t.node.tracker.views → t.node.log.durable ≤ last t.node.log → HasCommittedAll t.node
    → (switched r t).node.role ≡ role.Leader → HasCommittedAll (switched r t).node
switched_all (Ok c) t up written h =
    let n = t.node in
    let P : NodeStep → Type 0 = λ x. x.node.role ≡ role.Leader → HasCommittedAll x.node in
    let u : NodeStep = with_event (with_node t (in_config n c)) (event_at n.id (event.Switched c)) in
    if_both P (is_leader n.role) (if steps_down u.node then became_follower u u.node.term 0 else views_updated u) u
    (λ _. if_both P (steps_down u.node) (became_follower u u.node.term 0) (views_updated u) (λ _ no. absurd (no_follower no)) (λ _ _. revised_all u up written h.within))
    (λ follows leads. absurd (follower_of n.role follows leads))
switched_all (Err fault) t up written h = λ leads. h

-- a node that an entry, or a change, has led to
record HasTurned (a b : PlainNode) : Type 0 where
  log : b.log ≡ a.log
  leads : b.role ≡ role.Leader → a.role ≡ role.Leader
  members : HasViewsOfMembers a → HasViewsOfMembers b
  all : a.log.durable ≤ last a.log → HasViewsOfMembers a → b.role ≡ role.Leader → HasCommittedAll a → HasCommittedAll b

told_members : {t u : NodeStep} → Path TellMove t u → HasViewsOfMembers t.node → HasViewsOfMembers u.node
told_members p =
    let tells : Allows TellMove (λ a b. HasViewsOfMembers a → HasViewsOfMembers b) = record { nothing = λ n is. is; chain = λ a b c f g is. g (f is); each = λ a b m is. telling_members m is } in
    over tells p

changes_role : {a b : PlainNode} → ChangeMove a b → b.role ≡ role.Leader → a.role ≡ role.Leader
changes_role (Unchanged n) leads = leads
changes_role (Configures n c never) leads = leads
changes_role (Resigns n c) leads = absurd (no_follower leads)
changes_role (Revises n c is) leads = is

change_log : {a b : PlainNode} → ChangeMove a b → b.log ≡ a.log
change_log (Revises n c leads) = ap (λ (x : PlainNode). x.log) (with_members_only (in_config n c))
change_log _ = refl

change_turned : (t : NodeStep) (transition : Transition) (words : List Word) → HasTurned t.node (change_applied t transition words).node
unfolding change_applied
change_turned t transition words =
    let c = change_way t transition words in
    let told = over keeps_rest c.next in
    record {
      log = ap (λ (r : Rest). r.log) told ∙ change_log c.first;
      leads = λ leads. changes_role c.first (sym (ap (λ (r : Rest). r.role) told) ∙ leads);
      members = λ is. told_members c.next (change_members c.first is);
      all = λ written is leads h. switched_all (changed t.node.tracker.config transition words) t is.in_order written h leads;
    }

body_turned : (body : Body) (t : NodeStep) → HasTurned t.node (body_applied body t).node
body_turned (Payload bytes) t = record { log = refl; leads = λ leads. leads; members = λ is. is; all = λ written is leads h. record { within = h.within; all = h.all } }
body_turned (Change transition words) t = change_turned t transition words

all_turned : (t : NodeStep) (i : ℕ) (es : List Entry) → HasTurned t.node (applied_all t i es).node
all_turned t i [] = record { log = refl; leads = λ leads. leads; members = λ is. is; all = λ written is leads h. h }
all_turned t i (e ∷ es) =
    let u : NodeStep = with_node t (record t.node { applied = i + 1 }) in
    let x : NodeStep = applied_one t (i + 1) e in
    let p = body_turned e.body u in
    let q = all_turned x (i + 1) es in
    record {
      log = q.log ∙ p.log;
      leads = λ leads. p.leads (q.leads leads);
      members = λ is. q.members (p.members is);
      all = λ written is leads h.
          q.all (subst (λ (v : LogValue). v.durable ≤ last v) (sym p.log) written) (p.members is) leads (p.all written is (q.leads leads) (record { within = h.within; all = h.all }));
    }

-- ---- leaving a joint configuration

left_all : (t : NodeStep) → HasCommittedAll t.node → HasCommittedAll (joint_left t).node
unfolding joint_left
left_all t h =
    let n = t.node in
    let body : Body = Change Auto [] in
    let put : HasCommittedAll (appended_change t body).node = if_both (λ (u : NodeStep). HasCommittedAll u.node) (is_log_full n) _ _ (λ _. h)
    (λ _. (let own = own_all n (record { term = n.term; body = body }) h in record { within = own.within; all = own.all })) in
    if_both (λ (u : NodeStep). HasCommittedAll u.node) (leaves_joint n) (all_sent_append (appended_change t body)) t
    (λ _. over_way tells_all (append_broadcast_way (appended_change t body).node) put) (λ _. h)

left_role : (t : NodeStep) → (joint_left t).node.role ≡ t.node.role
unfolding joint_left
left_role t =
    let body : Body = Change Auto [] in
    let put : (appended_change t body).node.role ≡ t.node.role = if_both (λ (u : NodeStep). u.node.role ≡ t.node.role) (is_log_full t.node) _ _ (λ _. refl) (λ _. refl) in
    if_both (λ (u : NodeStep). u.node.role ≡ t.node.role) (leaves_joint t.node) (all_sent_append (appended_change t body)) t
    (λ _. ap (λ (x : PlainNode). x.role) (append_broadcast_only (appended_change t body).node) ∙ put) (λ _. refl)

-- ---- an advance

own_all_stepped : (id : ℕ) (t : NodeStep) (ms : List Message) → LeavesNone t.node (own_answers_stepped id t ms).node
own_all_stepped id t [] = nothing t.node
own_all_stepped id t (m ∷ ms) =
    let next : NodeStep = if m.to == id then stepped t m else t in
    chained t.node next.node (own_answers_stepped id next ms).node
    (if_both (λ (u : NodeStep). LeavesNone t.node u.node) (m.to == id) (stepped t m) t (λ _. step_leaves t m) (λ _. nothing t.node)) (own_all_stepped id next ms)

turn_goes : (t : NodeStep) → IsSound t.node → Goes anyone (core t.node) (core (own_turn t).node)
turn_goes t s =
    let first : Goes anyone (core t.node) (core (saved t.node)) = (all_durable (core t.node)).goes s in
    goes_then (core t.node) (core (saved t.node)) (core (own_turn t).node) first ((over (calls_keep {w = anyone} s) (ready_way t (λ o. o))).goes first.ordered)

turn_all : (t : NodeStep) → HasViewsOfMembers t.node → (own_turn t).node.role ≡ role.Leader → HasCommittedAll t.node → HasCommittedAll (own_turn t).node
turn_all t is leads h =
    let n = t.node in
    let u : NodeStep = with_node t (saved n) in
    let x : NodeStep = applied_all u n.applied (applying n) in
    left_all x ((all_turned u n.applied (applying n)).all (omega arith) is (sym (left_role x) ∙ leads) (record { within = h.within; all = h.all }))

advance_all : (t : NodeStep) → HasViewsOfMembers t.node → IsSound t.node → t.node.role ≡ role.Leader → (advanced t).node.role ≡ role.Leader → (advanced t).node.term ≡ t.node.term
    → HasCommittedAll t.node → HasCommittedAll (advanced t).node
unfolding advanced
advance_all t is s first end same h =
    let u : NodeStep = own_turn t in
    let rest = own_all_stepped t.node.id u t.node.waiting in
    let g = turn_goes t s in
    let k = rest.keeps.goes g.ordered in
    let last_node = (own_answers_stepped t.node.id u t.node.waiting).node in
    let leads = middle_leads (core t.node) (core u.node) (core last_node) g k first end same in
    let at : u.node.term ≡ t.node.term = middle_term (core t.node) (core u.node) (core last_node) g k same in
    rest.all g.ordered leads end (same ∙ sym at) (turn_all t is leads h)

-- ---- every call

compacted_all : (o : Option CompactFault) (n : PlainNode) (i : ℕ) → compact_fault n.log i (min n.applied n.log.durable) ≡ o → IsSound n → n.role ≡ role.Leader → HasCommittedAll n
    → HasCommittedAll (compacted_unless o n i)
compacted_all (Some fault) n i is s leads h = h
compacted_all None n i is s leads h =
    let new : PlainNode = compacted_at n i in
    let g = (call_keeps {sound = Unit {0}} {w = anyone} tt (Compacts n i is)).goes s in
    let grown = g.own leads leads refl in
    let base = g.ordered.past_base in
    let known = g.ordered.is_committed in
    still_all n new refl (λ id. refl) (omega arith) refl grown.longer (λ j past low. grown.terms j low (omega (arith, past, base, known))) h

pub call_all : (c : Call) (t : NodeStep) → HasViewsOfMembers t.node → IsSound t.node → t.node.role ≡ role.Leader → (after c t).node.role ≡ role.Leader → (after c t).node.term ≡ t.node.term
    → HasCommittedAll t.node → HasCommittedAll (after c t).node
call_all (Step m) t is s first end same h = (step_leaves t m).all s first end same h
call_all Campaign t is s first end same h = (over steps_all (campaigned_way t false)).all s first end same h
call_all (Propose body) t is s first end same h = (step_leaves t (message t.node.id t.node.id 0 (kind.Proposal body))).all s first end same h
call_all (Transfer to) t is s first end same h = (step_leaves t (message t.node.id t.node.id 0 (kind.TransferLeader to))).all s first end same h
call_all Tick t is s first end same h = role_ticked t.node.role t first h end
call_all Advance t is s first end same h = advance_all t is s first end same h
call_all ForgetLeader t is s first end same h = over_way tells_all (forgotten_way t.node.role t.node) h
call_all (ReportUnreachable id) t is s first end same h = over_way tells_all (reported_way t.node id) h
call_all (SetTimeout ticks) t is s first end same h = record { within = h.within; all = h.all }
call_all (Compact index) t is s first end same h = compacted_all (compact_fault t.node.log index (min t.node.applied t.node.log.durable)) t.node index refl s first h

pub run_all : (cs : List Call) (t : NodeStep) → HasViewsOfMembers t.node → IsSound t.node → t.node.role ≡ role.Leader → (run cs t).node.role ≡ role.Leader → (run cs t).node.term ≡ t.node.term
    → HasCommittedAll t.node → HasCommittedAll (run cs t).node
run_all [] t is s first end same h = h
run_all (c ∷ cs) t is s first end same h =
    let u = after c t in
    let g = (anyhow (calls c t)).goes s in
    let k = (runs cs u).goes g.ordered in
    let leads = middle_leads (core t.node) (core u.node) (core (run cs u).node) g k first end same in
    let at : u.node.term ≡ t.node.term = middle_term (core t.node) (core u.node) (core (run cs u).node) g k same in
    run_all cs u (called_members c t is) g.ordered leads end (same ∙ sym at) (call_all c t is s first leads at h)

-- ---- an election

lead_within : (n : PlainNode) → n.log.durable ≤ last n.log → IsWithin (leading n)
lead_within n written id =
    let active : Bool = not n.options.check_quorum in
    let log : last (leading n).log ≡ last n.log = ap (λ (c : Core). last c.log) (leading_same n) in
    elim (with_views_at_most (in_lead n) (members n.tracker.config) active id) as (λ _. of (leading n) id ≤ last (leading n).log) [
      | inl less ↦ omega (arith, less)
      | inr own ↦ (let low = own.1 in omega (arith, low, written, log))
    ]

lead_all : (n : PlainNode) → n.log.durable ≤ last n.log → ((i : ℕ) → n.commit < i → is_term (term_at n.log i) n.term ≡ false) → HasCommittedAll (leading n)
lead_all n written none =
    let core_same = leading_same n in
    let commit : (leading n).commit ≡ n.commit = ap (λ (c : Core). c.commit) core_same in
    record {
      within = lead_within n written;
      all = λ i past _. ap (λ (c : Core). is_term (term_at c.log i) c.term) core_same ∙ none i (omega (arith, past, commit));
    }

pub elected_all : (t : NodeStep) → IsSound t.node → ((i : ℕ) → t.node.commit < i → is_term (term_at t.node.log i) t.node.term ≡ false) → HasCommittedAll (became_leader t).node
unfolding became_leader
elected_all t s none =
    let n = leading t.node in
    let u : NodeStep = with_event (with_node t n) (event_at t.node.id (event.Became role.Leader t.node.term)) in
    let h = lead_all t.node s.within none in
    let put : HasCommittedAll (appended u (Payload [])).node = if_both (λ (x : NodeStep). HasCommittedAll x.node) (is_log_full n) _ _ (λ _. h)
    (λ _. (let own = own_all n (record { term = n.term; body = Payload [] }) h in record { within = own.within; all = own.all })) in
    over_way tells_all (append_broadcast_way (appended u (Payload [])).node) put
