-- Timers (Ongaro's thesis, section 3.4): a leader's message and a vote start the election timer again, and a leader's look at its quorum
-- ends a transfer (section 3.10)
use Rattle.std.proofs.Common.{◌≡◌, ◌⊎◌, ℕ, ◌<◌, ◌≤◌, Bool, true, false, ◌==◌, nat_le, List, [], ◌∷◌, refl, sym, subst, ◌∙◌, arith, eqb-true, inl, inr}
use Rattle.std.proofs.lemmas.Bool.{false≢true, le-leb}
use Rattle.rb_raftlog.specs.Log.{term_at, is_term, answer}
use Rattle.rb_raftlog.specs.declared.raft_log.Appended.{Appended}
use Rattle.rb_raftlog.specs.declared.raft_log.Appended.TheVariants.{Matched, Refused, BelowCommit}
use Rattle.rb_raftlog.specs.declared.snapshot.Snapshot.{Snapshot}
use Rattle.rb_tracker.proofs.SetLaws.{if_both}
use Rattle.rb_tracker.specs.Trackers.{ids_of}
use Rattle.rb_message.specs.Appends.{PlainAppend}
use Rattle.rb_message.specs.declared.kind.MessageKind.{MessageKind}
use Rattle.rb_message.specs.declared.kind.MessageKind.TheVariants as kind
use Rattle.rb_message.specs.declared.message.Message.{Message}
use Rattle.rb_message.specs.declared.role.Role.{Role}
use Rattle.rb_message.specs.declared.role.Role.TheVariants as role
use Rattle.rb_node.specs.Following.{after_log, with_appended, removal_reported, append_entries_handled, snapshot_handled, new_snapshot_handled, leader_contact_recorded}
use Rattle.rb_node.specs.Node.{PlainNode, NodeStep, with_node, with_elapsed, with_heartbeat_elapsed}
use Rattle.rb_node.specs.Step.{as_follower, as_precandidate, as_candidate, by_role_of, at_term_by, stepped}
use Rattle.rb_node.specs.Terms.{became_follower, stepped_later_by, stepped_earlier_by, ignores_campaign}
use Rattle.rb_node.specs.Ticking.{next_count, counters_advanced, heartbeat_sent_to, heartbeat_sent_to_each, due_heartbeats_sent, activity_reset, has_lost_quorum, active_quorum_checked, leader_ticked, ticked_by, ticked}
use Rattle.rb_node.specs.Transferring.{transfer_ended}
use Rattle.rb_node.specs.Votes.{grants}
use Rattle.rb_node.specs.declared.limits.TheConstants.{ELECTION_TICKS, HEARTBEAT_TICKS}
use Rattle.rb_calls.specs.Learning.{IsLeaders}
use Rattle.rb_laws.proofs.StepCases.{by_term}
use Rattle.rb_calls.proofs.StepWays.{leaders_have_term}

-- ---- a leader's message

-- a node has just heard of a leader of its term
pub record Hears (m : Message) (t : NodeStep) : Type 0 where
  pub timer : t.node.clock.elapsed ≡ 0
  pub lead : t.node.lead ≡ m.from
  pub term : m.term ≡ t.node.term

after_log_hears : (a : Appended) (t : NodeStep) (m : Message) (append : PlainAppend) → m.term ≡ t.node.term → Hears m (after_log a (with_node t (with_appended t.node m.from append)) m.from append)
after_log_hears (Matched i) t m append same = record { timer = refl; lead = refl; term = same }
after_log_hears (Refused hint) t m append same = record { timer = refl; lead = refl; term = same }
after_log_hears (BelowCommit i) t m append same = record { timer = refl; lead = refl; term = same }

append_hears : (t : NodeStep) (m : Message) (append : PlainAppend) → m.term ≡ t.node.term → Hears m (append_entries_handled t m.from append)
unfolding append_entries_handled
append_hears t m append same = after_log_hears (answer t.node.log append.prev append.prev_term append.entries t.node.commit) (removal_reported t append) m append same

snapshot_hears : (t : NodeStep) (m : Message) (s : Snapshot) → m.term ≡ t.node.term → Hears m (snapshot_handled (with_node t (leader_contact_recorded t.node m.from)) m.from s)
unfolding snapshot_handled
snapshot_hears t m s same =
    let u : NodeStep = with_node t (leader_contact_recorded t.node m.from) in
    if_both (Hears m) (nat_le s.index u.node.commit) _ _ (λ _. record { timer = refl; lead = refl; term = same })
    (λ _. if_both (Hears m) (is_term (term_at u.node.log s.index) s.term) _ (new_snapshot_handled u m.from s) (λ _. record { timer = refl; lead = refl; term = same }) (λ _. record { timer = refl; lead = refl; term = same }))

pub follower_hears : (k : MessageKind) (t : NodeStep) (m : Message) → IsLeaders k → m.term ≡ t.node.term → Hears m (as_follower k t m)
follower_hears (kind.Append append) t m is same = append_hears t m append same
follower_hears (kind.Heartbeat commit) t m is same = record { timer = refl; lead = refl; term = same }
follower_hears (kind.Snapshot snapshot) t m is same = snapshot_hears t m snapshot same
follower_hears _ t m is same = absurd is

precandidate_hears : (k : MessageKind) (t : NodeStep) (m : Message) → IsLeaders k → IsLeaders m.kind → m.term ≡ t.node.term → Hears m (as_precandidate k t m)
precandidate_hears (kind.Append append) t m is leaders same = follower_hears m.kind (became_follower t t.node.term m.from) m leaders same
precandidate_hears (kind.Heartbeat commit) t m is leaders same = follower_hears m.kind (became_follower t t.node.term m.from) m leaders same
precandidate_hears (kind.Snapshot snapshot) t m is leaders same = follower_hears m.kind (became_follower t t.node.term m.from) m leaders same
precandidate_hears _ t m is leaders same = absurd is

candidate_hears : (k : MessageKind) (t : NodeStep) (m : Message) → IsLeaders k → IsLeaders m.kind → m.term ≡ t.node.term → Hears m (as_candidate k t m)
candidate_hears (kind.Append append) t m is leaders same = follower_hears m.kind (became_follower t t.node.term m.from) m leaders same
candidate_hears (kind.Heartbeat commit) t m is leaders same = follower_hears m.kind (became_follower t t.node.term m.from) m leaders same
candidate_hears (kind.Snapshot snapshot) t m is leaders same = follower_hears m.kind (became_follower t t.node.term m.from) m leaders same
candidate_hears _ t m is leaders same = absurd is

pub role_hears : (r : Role) (t : NodeStep) (m : Message) → IsLeaders m.kind → m.term ≡ t.node.term → (r ≡ role.Leader → ⊥) → Hears m (by_role_of r t m)
role_hears role.Follower t m leaders same never = follower_hears m.kind t m leaders same
role_hears role.Precandidate t m leaders same never = precandidate_hears m.kind t m leaders leaders same
role_hears role.Candidate t m leaders same never = candidate_hears m.kind t m leaders leaders same
role_hears role.Leader t m leaders same never = absurd (never refl)

term_hears : (k : MessageKind) (t : NodeStep) (m : Message) → IsLeaders k → IsLeaders m.kind → m.term ≡ t.node.term → (t.node.role ≡ role.Leader → ⊥) → Hears m (at_term_by k t m)
term_hears (kind.Append append) t m is leaders same never = role_hears t.node.role t m leaders same never
term_hears (kind.Heartbeat commit) t m is leaders same never = role_hears t.node.role t m leaders same never
term_hears (kind.Snapshot snapshot) t m is leaders same never = role_hears t.node.role t m leaders same never
term_hears _ t m is leaders same never = absurd is

pub raised_hears : (k : MessageKind) (t : NodeStep) (m : Message) → IsLeaders k → IsLeaders m.kind → Hears m (at_term_by k (stepped_later_by k t m) m)
raised_hears (kind.Append append) t m is leaders = follower_hears m.kind (became_follower t m.term m.from) m leaders refl
raised_hears (kind.Heartbeat commit) t m is leaders = follower_hears m.kind (became_follower t m.term m.from) m leaders refl
raised_hears (kind.Snapshot snapshot) t m is leaders = follower_hears m.kind (became_follower t m.term m.from) m leaders refl
raised_hears _ t m is leaders = absurd is

leaders_disturb : (k : MessageKind) (n : PlainNode) → IsLeaders k → ignores_campaign k n ≡ true → ⊥
leaders_disturb (kind.Append append) n is e = false≢true e
leaders_disturb (kind.Heartbeat commit) n is e = false≢true e
leaders_disturb (kind.Snapshot snapshot) n is e = false≢true e
leaders_disturb _ n is e = is

pub leader_heard : (t : NodeStep) (m : Message) → IsLeaders m.kind → t.node.term ≤ m.term → (t.node.role ≡ role.Leader → t.node.term < m.term) → Hears m (stepped t m)
leader_heard t m leaders reached steps_down =
    by_term (Hears m) t m
    (λ same. (let now = same (leaders_have_term m.kind leaders) in
    term_hears m.kind t m leaders leaders now (λ leads. (let later = steps_down leads in omega (arith, now, later)))))
    (λ low. absurd (omega (arith, low, reached)))
    (λ _ disturbs. absurd (leaders_disturb m.kind t.node leaders disturbs))
    (λ _ _. raised_hears m.kind t m leaders leaders)

-- ---- a vote

-- the vote is as it was, or the timer starts again
abbrev Restarts : PlainNode → NodeStep → Type 0
Restarts old t = (t.node.vote ≡ old.vote) ⊎ (t.node.clock.elapsed ≡ 0)

pub vote_restarts : (t : NodeStep) (m : Message) (last_term last_index : ℕ) (transfer : Bool) → m.kind ≡ kind.Vote last_term last_index transfer → Restarts t.node (stepped t m)
vote_restarts t m last_term last_index transfer is =
    let u : NodeStep = became_follower t m.term 0 in
    by_term (Restarts t.node) t m
    (λ _. subst (λ (k : MessageKind). Restarts t.node (at_term_by k t m)) (sym is)
    (if_both (Restarts t.node) (grants t.node m last_term last_index false) _ _ (λ _. inr refl) (λ _. inl refl)))
    (λ _. subst (λ (k : MessageKind). Restarts t.node (stepped_earlier_by k t m)) (sym is) (inl refl))
    (λ _ _. inl refl)
    (λ _ _. subst (λ (k : MessageKind). Restarts t.node (at_term_by k (stepped_later_by k t m) m)) (sym is)
    (if_both (Restarts t.node) (grants u.node m last_term last_index false) _ _ (λ _. inr refl) (λ _. inr refl)))

-- ---- a transfer

beat_transferee : (n : PlainNode) (id : ℕ) → (heartbeat_sent_to n id).transferee ≡ n.transferee
beat_transferee n id = if_both (λ (x : PlainNode). x.transferee ≡ n.transferee) (id == n.id) _ _ (λ _. refl) (λ _. refl)

beats_transferee : (n : PlainNode) (ids : List ℕ) → (heartbeat_sent_to_each n ids).transferee ≡ n.transferee
beats_transferee n [] = refl
beats_transferee n (id ∷ ids) = beats_transferee (heartbeat_sent_to n id) ids ∙ beat_transferee n id

due_transferee : (n : PlainNode) → (due_heartbeats_sent n).transferee ≡ n.transferee
unfolding due_heartbeats_sent
due_transferee n =
    if_both (λ (x : PlainNode). x.transferee ≡ n.transferee) (nat_le HEARTBEAT_TICKS n.clock.heartbeat_elapsed) _ _
    (λ _. beats_transferee (with_heartbeat_elapsed n 0) (ids_of n.tracker.views)) (λ _. refl)

abbrev HandsToNobody : NodeStep → Type 0
HandsToNobody t = t.node.transferee ≡ 0

ended_transferee : (t : NodeStep) → HandsToNobody (transfer_ended t)
unfolding transfer_ended
ended_transferee t = if_both HandsToNobody (t.node.transferee == 0) _ _ (λ none. eqb-true t.node.transferee 0 none) (λ _. refl)

looked_transferee : (t : NodeStep) → HandsToNobody (active_quorum_checked t)
unfolding active_quorum_checked
looked_transferee t =
    let u : NodeStep = transfer_ended (with_node t (activity_reset t.node)) in
    if_both HandsToNobody (has_lost_quorum t.node) _ _ (λ _. refl) (λ _. due_transferee u.node ∙ ended_transferee (with_node t (activity_reset t.node)))

ticked_transferee : (t : NodeStep) → ELECTION_TICKS ≤ next_count t.node.clock.elapsed → HandsToNobody (leader_ticked t)
unfolding leader_ticked
ticked_transferee t due =
    let n : PlainNode = counters_advanced t.node in
    if_both HandsToNobody (nat_le ELECTION_TICKS n.clock.elapsed) _ _ (λ _. looked_transferee (with_node t (with_elapsed n 0)))
    (λ no. absurd (false≢true (sym no ∙ le-leb ELECTION_TICKS n.clock.elapsed due)))

role_transferee : (r : Role) (t : NodeStep) → r ≡ role.Leader → ELECTION_TICKS ≤ next_count t.node.clock.elapsed → HandsToNobody (ticked_by r t)
role_transferee role.Leader t leads due = ticked_transferee t due
role_transferee role.Follower t leads due = cc
role_transferee role.Precandidate t leads due = cc
role_transferee role.Candidate t leads due = cc

pub transfer_times_out : (t : NodeStep) → t.node.role ≡ role.Leader → ELECTION_TICKS ≤ next_count t.node.clock.elapsed → HandsToNobody (ticked t)
transfer_times_out t leads due = role_transferee t.node.role t leads due

-- ---- a look at the quorum

beat_elapsed : (n : PlainNode) (id : ℕ) → (heartbeat_sent_to n id).clock.elapsed ≡ n.clock.elapsed
beat_elapsed n id = if_both (λ (x : PlainNode). x.clock.elapsed ≡ n.clock.elapsed) (id == n.id) _ _ (λ _. refl) (λ _. refl)

beats_elapsed : (n : PlainNode) (ids : List ℕ) → (heartbeat_sent_to_each n ids).clock.elapsed ≡ n.clock.elapsed
beats_elapsed n [] = refl
beats_elapsed n (id ∷ ids) = beats_elapsed (heartbeat_sent_to n id) ids ∙ beat_elapsed n id

due_elapsed : (n : PlainNode) → (due_heartbeats_sent n).clock.elapsed ≡ n.clock.elapsed
unfolding due_heartbeats_sent
due_elapsed n =
    if_both (λ (x : PlainNode). x.clock.elapsed ≡ n.clock.elapsed) (nat_le HEARTBEAT_TICKS n.clock.heartbeat_elapsed) _ _
    (λ _. beats_elapsed (with_heartbeat_elapsed n 0) (ids_of n.tracker.views)) (λ _. refl)

reset_elapsed : (n : PlainNode) → (activity_reset n).clock.elapsed ≡ n.clock.elapsed
reset_elapsed n = if_both (λ (x : PlainNode). x.clock.elapsed ≡ n.clock.elapsed) n.options.check_quorum _ _ (λ _. refl) (λ _. refl)

ended_elapsed : (t : NodeStep) → (transfer_ended t).node.clock.elapsed ≡ t.node.clock.elapsed
unfolding transfer_ended
ended_elapsed t = if_both (λ (u : NodeStep). u.node.clock.elapsed ≡ t.node.clock.elapsed) (t.node.transferee == 0) _ _ (λ _. refl) (λ _. refl)

looked_elapsed : (t : NodeStep) → t.node.clock.elapsed ≡ 0 → (active_quorum_checked t).node.clock.elapsed ≡ 0
unfolding active_quorum_checked
looked_elapsed t starts =
    let v : NodeStep = with_node t (activity_reset t.node) in
    let u : NodeStep = transfer_ended v in
    if_both (λ (x : NodeStep). x.node.clock.elapsed ≡ 0) (has_lost_quorum t.node) _ _ (λ _. refl) (λ _. due_elapsed u.node ∙ ended_elapsed v ∙ reset_elapsed t.node ∙ starts)

ticked_elapsed : (t : NodeStep) → ELECTION_TICKS ≤ next_count t.node.clock.elapsed → (leader_ticked t).node.clock.elapsed ≡ 0
unfolding leader_ticked
ticked_elapsed t due =
    let n : PlainNode = counters_advanced t.node in
    if_both (λ (x : NodeStep). x.node.clock.elapsed ≡ 0) (nat_le ELECTION_TICKS n.clock.elapsed) _ _ (λ _. looked_elapsed (with_node t (with_elapsed n 0)) refl)
    (λ no. absurd (false≢true (sym no ∙ le-leb ELECTION_TICKS n.clock.elapsed due)))

role_elapsed : (r : Role) (t : NodeStep) → r ≡ role.Leader → ELECTION_TICKS ≤ next_count t.node.clock.elapsed → (ticked_by r t).node.clock.elapsed ≡ 0
role_elapsed role.Leader t leads due = ticked_elapsed t due
role_elapsed role.Follower t leads due = cc
role_elapsed role.Precandidate t leads due = cc
role_elapsed role.Candidate t leads due = cc

pub look_restarts : (t : NodeStep) → t.node.role ≡ role.Leader → ELECTION_TICKS ≤ next_count t.node.clock.elapsed → (ticked t).node.clock.elapsed ≡ 0
look_restarts t leads due = role_elapsed t.node.role t leads due
