-- What a leader's calls do to the marks of whom it has heard of (Ongaro's thesis, section 6.2)
use Rattle.std.proofs.Common.{◌≡◌, ℕ, ◌<◌, ◌≤◌, Bool, true, false, not, ◌&&◌, ◌==◌, nat_le, nat_eq, cond, min, List, [], ◌∷◌, length, map, Option, Some, None, refl, ap, sym, subst, ◌∙◌, arith, eqb-true}
use Rattle.std.specs.Map.{lookup}
use Rattle.std.proofs.lemmas.Bool.{false≢true, leb-true, le-leb}
use Rattle.std.proofs.lemmas.Bool.Decides.{nat_tests}
use Rattle.rb_raftlog.specs.Log.{last}
use Rattle.rb_raftlog.specs.declared.entry.Body.{Body}
use Rattle.rb_raftlog.specs.declared.entry.Body.TheVariants.{Payload, Change}
use Rattle.rb_tracker.proofs.SetLaws.{if_both}
use Rattle.rb_tracker.specs.Active.{active_in, is_active, inactive_unless_own, others_marked_inactive, quorum_active}
use Rattle.rb_tracker.specs.Commits.{match_of}
use Rattle.rb_tracker.specs.Progresses.{PlainProgress, with_active}
use Rattle.rb_tracker.specs.Trackers.{PlainTracker, place, view_at, ids_of}
use Rattle.rb_message.specs.declared.event.WhyReplaced.{WhyReplaced}
use Rattle.rb_message.specs.declared.kind.MessageKind.{MessageKind}
use Rattle.rb_message.specs.declared.kind.MessageKind.TheVariants as kind
use Rattle.rb_message.specs.declared.message.Message.{Message}
use Rattle.rb_message.specs.declared.role.Role.{Role}
use Rattle.rb_message.specs.declared.role.Role.TheVariants as role
use Rattle.rb_node.specs.Acknowledging.{append_response_handled_at, append_response_handled, marked_active, append_refusal_handled_at, append_refusal_handled, heartbeat_response_handled_at, heartbeat_response_handled}
use Rattle.rb_node.specs.Leading.{appended, is_log_full}
use Rattle.rb_node.specs.Node.{PlainNode, NodeStep, with_node, with_elapsed, with_heartbeat_elapsed}
use Rattle.rb_node.specs.Proposing.{why_replaced, change_or_empty_appended, proposal_appended, drops_proposals, proposal_handled}
use Rattle.rb_node.specs.Step.{as_leader, by_role_of, at_term_by, stepped}
use Rattle.rb_node.specs.Terms.{answers_earlier, stepped_earlier_by}
use Rattle.rb_node.specs.Ticking.{next_count, heartbeat_sent_to, heartbeat_sent_to_each, due_heartbeats_sent, has_lost_quorum, activity_reset, active_quorum_checked, counters_advanced, leader_ticked, ticked_by, ticked}
use Rattle.rb_node.specs.Transferring.{cannot_take_lead, previous_transfer_ended, timeout_now_sent, transfer_leader_handled, transfer_ended}
use Rattle.rb_node.specs.Votes.{grants}
use Rattle.rb_node.specs.declared.limits.TheConstants.{ELECTION_TICKS, HEARTBEAT_TICKS}
use Rattle.rb_node.specs.declared.sends.SendReason.TheVariants as mode
use Rattle.rb_laws.specs.Activity.{IsAnswer}
use Rattle.rb_laws.proofs.ActiveLaws.{marked, SameMarks, Marks, marks_then, mark_there, accepted_same, refused_same, beat_same, sends_same, broadcast_same}
use Rattle.rb_laws.proofs.StepCases.{by_term}

-- ---- an answer

accepted_marks : (t : NodeStep) (m : Message) (i at : ℕ) → place t.node.tracker.views m.from ≡ Some at → Marks t.node m.from (append_response_handled_at (Some at) t m i).node
accepted_marks t m i at here =
    let n : PlainNode = marked_active t.node at in
    marks_then t.node m.from n (append_response_handled_at (Some at) t m i).node (mark_there t.node at m.from here)
    (accepted_same (view_at n.tracker.views at) n at m.from (min i (last t.node.log)))

refused_marks : (t : NodeStep) (m : Message) (i hint at : ℕ) → place t.node.tracker.views m.from ≡ Some at → Marks t.node m.from (append_refusal_handled_at (Some at) t m i hint).node
refused_marks t m i hint at here =
    let u : NodeStep = with_node t (marked_active t.node at) in
    marks_then t.node m.from u.node (append_refusal_handled_at (Some at) t m i hint).node (mark_there t.node at m.from here)
    (refused_same (view_at u.node.tracker.views at) u at m i hint refl)

beat_marks : (t : NodeStep) (m : Message) (at : ℕ) → place t.node.tracker.views m.from ≡ Some at → Marks t.node m.from (heartbeat_response_handled_at (Some at) t m).node
beat_marks t m at here =
    let n : PlainNode = marked_active t.node at in
    marks_then t.node m.from n (heartbeat_response_handled_at (Some at) t m).node (mark_there t.node at m.from here) (beat_same (view_at n.tracker.views at) n at m.from refl)

answer_marks : (k : MessageKind) (t : NodeStep) (m : Message) (at : ℕ) → IsAnswer k → place t.node.tracker.views m.from ≡ Some at → Marks t.node m.from (as_leader k t m).node
unfolding append_response_handled append_refusal_handled heartbeat_response_handled
answer_marks (kind.AppendResponse i) t m at is here =
    subst (λ (o : Option ℕ). Marks t.node m.from (append_response_handled_at o t m i).node) (sym here) (accepted_marks t m i at here)
answer_marks (kind.AppendRefusal i hint) t m at is here =
    subst (λ (o : Option ℕ). Marks t.node m.from (append_refusal_handled_at o t m i hint).node) (sym here) (refused_marks t m i hint at here)
answer_marks kind.HeartbeatResponse t m at is here =
    subst (λ (o : Option ℕ). Marks t.node m.from (heartbeat_response_handled_at o t m).node) (sym here) (beat_marks t m at here)
answer_marks _ t m at is here = absurd is

-- an answer of a node without a view changes no mark
answer_others : (o : Option ℕ) (k : MessageKind) (t : NodeStep) (m : Message) (id : ℕ) → IsAnswer k → place t.node.tracker.views m.from ≡ o → (id ≡ m.from → ⊥)
    → marked (as_leader k t m).node id ≡ marked t.node id
unfolding append_response_handled append_refusal_handled heartbeat_response_handled
answer_others (Some at) k t m id is here other = (answer_marks k t m at is here).others id other
answer_others None (kind.AppendResponse i) t m id is here other = subst (λ (o : Option ℕ). marked (append_response_handled_at o t m i).node id ≡ marked t.node id) (sym here) refl
answer_others None (kind.AppendRefusal i hint) t m id is here other = subst (λ (o : Option ℕ). marked (append_refusal_handled_at o t m i hint).node id ≡ marked t.node id) (sym here) refl
answer_others None kind.HeartbeatResponse t m id is here other = subst (λ (o : Option ℕ). marked (heartbeat_response_handled_at o t m).node id ≡ marked t.node id) (sym here) refl
answer_others None _ t m id is here other = absurd is

-- ---- anything else that comes

appended_same : (t : NodeStep) (body : Body) → SameMarks t.node (appended t body).node
appended_same t body = if_both (λ (u : NodeStep). SameMarks t.node u.node) (is_log_full t.node) _ _ (λ _ id. refl) (λ _ id. refl)

change_same : (o : Option WhyReplaced) (t : NodeStep) (body : Body) → SameMarks t.node (change_or_empty_appended o t body).node
change_same None t body = if_both (λ (u : NodeStep). SameMarks t.node u.node) (is_log_full t.node) _ _ (λ _ id. refl) (λ _ id. refl)
change_same (Some reason) t body = if_both (λ (u : NodeStep). SameMarks t.node u.node) (is_log_full t.node) _ _ (λ _ id. refl) (λ _ id. refl)

put_same : (body : Body) (t : NodeStep) → SameMarks t.node (proposal_appended body t).node
put_same (Payload bytes) t = appended_same t (Payload bytes)
put_same (Change transition words) t =
    if_both (λ (u : NodeStep). SameMarks t.node u.node) (is_log_full t.node) _ _ (λ _ id. refl) (λ _. change_same (why_replaced t.node (length words)) t (Change transition words))

proposed_same : (t : NodeStep) (body : Body) → SameMarks t.node (proposal_handled t body).node
unfolding proposal_handled
proposed_same t body =
    if_both (λ (u : NodeStep). SameMarks t.node u.node) (drops_proposals t.node) _ _ (λ _ id. refl)
    (λ _ id. broadcast_same (proposal_appended body t).node id ∙ put_same body t id)

urged_same : (n : PlainNode) (target : ℕ) → SameMarks n (timeout_now_sent n target)
urged_same n target = if_both (SameMarks n) (match_of n.tracker.views target == last n.log) _ _ (λ _ id. refl) (λ _. sends_same n target mode.Tell)

older_same : (t : NodeStep) → SameMarks t.node (previous_transfer_ended t).node
older_same t = if_both (λ (u : NodeStep). SameMarks t.node u.node) (t.node.transferee == 0) _ _ (λ _ id. refl) (λ _ id. refl)

transfer_same : (t : NodeStep) (m : Message) (target : ℕ) → SameMarks t.node (transfer_leader_handled t m target).node
unfolding transfer_leader_handled
transfer_same t m target =
    let u : NodeStep = previous_transfer_ended t in
    if_both (λ (x : NodeStep). SameMarks t.node x.node) (cannot_take_lead t.node target) _ _ (λ _ id. refl)
    (λ _ id. urged_same (record (with_elapsed u.node 0) { transferee = target }) target id ∙ older_same t id)

leader_others : (k : MessageKind) (t : NodeStep) (m : Message) (id : ℕ) → (IsAnswer k → id ≡ m.from → ⊥) → marked (as_leader k t m).node id ≡ marked t.node id
leader_others (kind.Proposal body) t m id other = proposed_same t body id
leader_others (kind.AppendResponse i) t m id other = answer_others (place t.node.tracker.views m.from) (kind.AppendResponse i) t m id tt refl (other tt)
leader_others (kind.AppendRefusal i hint) t m id other = answer_others (place t.node.tracker.views m.from) (kind.AppendRefusal i hint) t m id tt refl (other tt)
leader_others kind.HeartbeatResponse t m id other = answer_others (place t.node.tracker.views m.from) kind.HeartbeatResponse t m id tt refl (other tt)
leader_others (kind.TransferLeader target) t m id other = transfer_same t m target id
leader_others _ t m id other = refl

role_others : (r : Role) (t : NodeStep) (m : Message) (id : ℕ) → r ≡ role.Leader → (IsAnswer m.kind → id ≡ m.from → ⊥) → marked (by_role_of r t m).node id ≡ marked t.node id
role_others role.Leader t m id leads other = leader_others m.kind t m id other
role_others role.Follower t m id leads other = cc
role_others role.Precandidate t m id leads other = cc
role_others role.Candidate t m id leads other = cc

term_others : (k : MessageKind) (t : NodeStep) (m : Message) (id : ℕ) → t.node.role ≡ role.Leader → (IsAnswer m.kind → id ≡ m.from → ⊥) → marked (at_term_by k t m).node id ≡ marked t.node id
term_others (kind.Vote last_term last_index transfer) t m id leads other =
    if_both (λ (u : NodeStep). marked u.node id ≡ marked t.node id) (grants t.node m last_term last_index false) _ _ (λ _. refl) (λ _. refl)
term_others (kind.PreVote last_term last_index) t m id leads other =
    if_both (λ (u : NodeStep). marked u.node id ≡ marked t.node id) (grants t.node m last_term last_index true) _ _ (λ _. refl) (λ _. refl)
term_others _ t m id leads other = role_others t.node.role t m id leads other

shown_same : (t : NodeStep) (m : Message) (k : MessageKind) (id : ℕ) → marked (stepped_earlier_by k t m).node id ≡ marked t.node id
shown_same t m (kind.PreVote last_term last_index) id = refl
shown_same t m (kind.Append append) id = if_both (λ (u : NodeStep). marked u.node id ≡ marked t.node id) (answers_earlier t.node) _ _ (λ _. refl) (λ _. refl)
shown_same t m (kind.Heartbeat commit) id = if_both (λ (u : NodeStep). marked u.node id ≡ marked t.node id) (answers_earlier t.node) _ _ (λ _. refl) (λ _. refl)
shown_same t m _ id = refl

pub others_stay : (t : NodeStep) (m : Message) (id : ℕ) → t.node.role ≡ role.Leader → m.term ≤ t.node.term → (IsAnswer m.kind → id ≡ m.from → ⊥) → marked (stepped t m).node id ≡ marked t.node id
others_stay t m id leads low other =
    by_term (λ (u : NodeStep). marked u.node id ≡ marked t.node id) t m
    (λ _. term_others m.kind t m id leads other)
    (λ _. shown_same t m m.kind id)
    (λ later _. absurd (omega (arith, later, low)))
    (λ later _. absurd (omega (arith, later, low)))

at_leader : (P : NodeStep → Type 0) (r : Role) (k : MessageKind) (t : NodeStep) (m : Message) → r ≡ role.Leader → P (as_leader m.kind t m) → P (by_role_of r t m)
at_leader P role.Leader k t m leads p = p
at_leader P role.Follower k t m leads p = cc
at_leader P role.Precandidate k t m leads p = cc
at_leader P role.Candidate k t m leads p = cc

answer_term : (P : NodeStep → Type 0) (k : MessageKind) (t : NodeStep) (m : Message) → IsAnswer k → P (by_role_of t.node.role t m) → P (at_term_by k t m)
answer_term P (kind.AppendResponse i) t m is p = p
answer_term P (kind.AppendRefusal i hint) t m is p = p
answer_term P kind.HeartbeatResponse t m is p = p
answer_term P _ t m is p = absurd is

pub sender_marked : (t : NodeStep) (m : Message) (at : ℕ) → t.node.role ≡ role.Leader → IsAnswer m.kind → m.term ≡ t.node.term → place t.node.tracker.views m.from ≡ Some at
    → marked (stepped t m).node m.from ≡ true
sender_marked t m at leads is same here =
    let P : NodeStep → Type 0 = λ u. marked u.node m.from ≡ true in
    by_term P t m
    (λ _. answer_term P m.kind t m is (at_leader P t.node.role m.kind t m leads (answer_marks m.kind t m at is here).sender))
    (λ low. absurd (omega (arith, low, same)))
    (λ later _. absurd (omega (arith, later, same)))
    (λ later _. absurd (omega (arith, later, same)))

-- ---- a look at the quorum

one_tracker : (n : PlainNode) (id : ℕ) → (heartbeat_sent_to n id).tracker ≡ n.tracker
one_tracker n id = if_both (λ (x : PlainNode). x.tracker ≡ n.tracker) (id == n.id) _ _ (λ _. refl) (λ _. refl)

each_tracker : (n : PlainNode) (ids : List ℕ) → (heartbeat_sent_to_each n ids).tracker ≡ n.tracker
each_tracker n [] = refl
each_tracker n (x ∷ xs) = each_tracker (heartbeat_sent_to n x) xs ∙ one_tracker n x

due_same : (n : PlainNode) → SameMarks n (due_heartbeats_sent n)
unfolding due_heartbeats_sent
due_same n =
    if_both (SameMarks n) (nat_le HEARTBEAT_TICKS n.clock.heartbeat_elapsed) _ _
    (λ _ id. ap (λ (x : PlainTracker). is_active x.views id) (each_tracker (with_heartbeat_elapsed n 0) (ids_of n.tracker.views))) (λ _ id. refl)

ended_same : (t : NodeStep) → SameMarks t.node (transfer_ended t).node
unfolding transfer_ended
ended_same t = if_both (λ (u : NodeStep). SameMarks t.node u.node) (t.node.transferee == 0) _ _ (λ _ id. refl) (λ _ id. refl)

nat_eq_is : (x y : ℕ) → nat_eq x y ≡ true → x ≡ y
nat_eq_is x y h = grind (arith, nat_tests)

-- the first view with an id is marked, or not, and so is what is looked up
first_mark : (b : Bool) (x : PlainProgress) (rest : Option PlainProgress) (mark : Bool) → (b ≡ true → x.active ≡ mark) → active_in rest ≡ mark → active_in (cond b (Some x) rest) ≡ mark
first_mark true x rest mark here there = here refl
first_mark false x rest mark here there = there

unmarked : (own : ℕ) (views : List (ℕ × PlainProgress)) (id : ℕ) → (id ≡ own → ⊥) → is_active (map (inactive_unless_own own) views) id ≡ false
unmarked own [] id other = refl
unmarked own (x ∷ xs) id other =
    let rest = unmarked own xs id other in
    if_both (λ (f : ℕ × PlainProgress). is_active (f ∷ map (inactive_unless_own own) xs) id ≡ false) (x.0 == own) x (x.0, with_active x.1 false)
    (λ is. first_mark (nat_eq id x.0) x.1 (lookup (nat_eq id) (map (inactive_unless_own own) xs)) false (λ here. absurd (other (nat_eq_is id x.0 here ∙ eqb-true x.0 own is))) rest)
    (λ _. first_mark (nat_eq id x.0) (with_active x.1 false) (lookup (nat_eq id) (map (inactive_unless_own own) xs)) false (λ _. refl) rest)

off : (b : Bool) → (b && not true) ≡ false
off true = refl
off false = refl

-- a leader that looks, and has heard of a quorum
looked_off : (t : NodeStep) (id : ℕ) → t.node.options.check_quorum ≡ true → quorum_active t.node.tracker ≡ true → (id ≡ t.node.id → ⊥) → marked (active_quorum_checked t).node id ≡ false
unfolding active_quorum_checked others_marked_inactive
looked_off t id checks active other =
    let n = t.node in
    let v : NodeStep = with_node t (activity_reset n) in
    let u : NodeStep = transfer_ended v in
    let lost : has_lost_quorum n ≡ false = ap (λ (b : Bool). n.options.check_quorum && not b) active ∙ off n.options.check_quorum in
    if_both (λ (x : NodeStep). marked x.node id ≡ false) (has_lost_quorum n) _ (with_node u (due_heartbeats_sent u.node))
    (λ is. absurd (false≢true (sym lost ∙ is)))
    (λ _. due_same u.node id ∙ ended_same v id
    ∙ if_both (λ (x : PlainNode). marked x id ≡ false) n.options.check_quorum (record n { tracker = others_marked_inactive n.tracker n.id }) n
    (λ _. unmarked n.id n.tracker.views id other) (λ no. absurd (false≢true (sym no ∙ checks))))

tick_off : (t : NodeStep) (id : ℕ) → t.node.options.check_quorum ≡ true → quorum_active t.node.tracker ≡ true → ELECTION_TICKS ≤ next_count t.node.clock.elapsed → (id ≡ t.node.id → ⊥)
    → marked (leader_ticked t).node id ≡ false
unfolding leader_ticked
tick_off t id checks active due other =
    let n : PlainNode = counters_advanced t.node in
    if_both (λ (x : NodeStep). marked x.node id ≡ false) (nat_le ELECTION_TICKS n.clock.elapsed) (active_quorum_checked (with_node t (with_elapsed n 0))) _
    (λ _. looked_off (with_node t (with_elapsed n 0)) id checks active other)
    (λ no. absurd (false≢true (sym no ∙ le-leb ELECTION_TICKS n.clock.elapsed due)))

tick_same : (t : NodeStep) (id : ℕ) → next_count t.node.clock.elapsed < ELECTION_TICKS → marked (leader_ticked t).node id ≡ marked t.node id
unfolding leader_ticked
tick_same t id early =
    let n : PlainNode = counters_advanced t.node in
    if_both (λ (x : NodeStep). marked x.node id ≡ marked t.node id) (nat_le ELECTION_TICKS n.clock.elapsed) (active_quorum_checked (with_node t (with_elapsed n 0))) _
    (λ is. (let due = leb-true ELECTION_TICKS n.clock.elapsed is in absurd (omega (arith, due, early))))
    (λ _. due_same n id)

leader_tick : (P : NodeStep → Type 0) (r : Role) (t : NodeStep) → r ≡ role.Leader → P (leader_ticked t) → P (ticked_by r t)
leader_tick P role.Leader t leads p = p
leader_tick P role.Follower t leads p = cc
leader_tick P role.Precandidate t leads p = cc
leader_tick P role.Candidate t leads p = cc

pub look_unmarks : (t : NodeStep) (id : ℕ) → t.node.role ≡ role.Leader → t.node.options.check_quorum ≡ true → quorum_active t.node.tracker ≡ true → ELECTION_TICKS ≤ next_count t.node.clock.elapsed
    → (id ≡ t.node.id → ⊥) → marked (ticked t).node id ≡ false
look_unmarks t id leads checks active due other = leader_tick (λ (u : NodeStep). marked u.node id ≡ false) t.node.role t leads (tick_off t id checks active due other)

pub ticks_leave : (t : NodeStep) (id : ℕ) → t.node.role ≡ role.Leader → next_count t.node.clock.elapsed < ELECTION_TICKS → marked (ticked t).node id ≡ marked t.node id
ticks_leave t id leads early = leader_tick (λ (u : NodeStep). marked u.node id ≡ marked t.node id) t.node.role t leads (tick_same t id early)
