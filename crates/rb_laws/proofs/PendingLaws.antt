-- A leader knows itself as the leader, and up to which index a change may be in its log (Ongaro's thesis, section 4.1; etcd's pendingConfIndex)
use Rattle.std.proofs.Common.{◌≡◌, ◌⊎◌, ℕ, zero, suc, ◌+◌, ◌<◌, ◌≤◌, Bool, true, false, not, ◌&&◌, ◌==◌, nat_le, min, if◌then◌else◌, List, [], ◌∷◌, length, Option, Some, None, Result, Ok, Err, refl, sym, ap, subst, ◌∙◌, arith, inl, inr}
use Rattle.std.specs.Prelude.{slice_get}
use Rattle.std.proofs.lemmas.Bool.{cases_lt}
use Rattle.rb_raftlog.specs.Bodies.{is_change}
use Rattle.rb_raftlog.specs.declared.entry.Body.{Body}
use Rattle.rb_raftlog.specs.declared.entry.Body.TheVariants.{Payload, Change}
use Rattle.rb_raftlog.specs.declared.entry.Entry.{Entry}
use Rattle.rb_raftlog.specs.declared.raft_log.Appended.{Appended}
use Rattle.rb_raftlog.specs.declared.raft_log.Appended.TheVariants.{Matched, Refused, BelowCommit}
use Rattle.rb_raftlog.specs.declared.raft_log.CompactFault.{CompactFault}
use Rattle.rb_raftlog.specs.declared.raft_log.LogFault.{LogFault}
use Rattle.rb_raftlog.specs.declared.snapshot.Snapshot.{Snapshot}
use Rattle.rb_raftlog.specs.Log.{LogValue, last, last_term, term_at, entry_at, is_term, answer, own, found, compacted, compact_fault}
use Rattle.rb_raftlog.proofs.PlaceLaws.{own-last, own-held, ok_is}
use Rattle.rb_raftlog.proofs.TermLaws.{by_index, entry_below, entry_past}
use Rattle.rb_raftlog.proofs.VoteLaws.{compacted-entry}
use Rattle.rb_vocab.specs.declared.change.Transition.{Transition}
use Rattle.rb_vocab.specs.declared.change.Transition.TheVariants.{Auto}
use Rattle.rb_vocab.specs.declared.change.Word.{Word}
use Rattle.rb_tracker.proofs.SetLaws.{if_both}
use Rattle.rb_tracker.specs.Changes.{changed}
use Rattle.rb_tracker.specs.Commits.{commit_of}
use Rattle.rb_tracker.specs.Configs.{voters, members, is_member}
use Rattle.rb_tracker.specs.Progresses.{PlainProgress}
use Rattle.rb_tracker.specs.Trackers.{configured, ids_of, place, view_at}
use Rattle.rb_tracker.specs.declared.changes.ChangeFault.{ChangeFault}
use Rattle.rb_tracker.specs.declared.config.Config.{Config}
use Rattle.rb_tracker.specs.declared.votes.VoteResult.{VoteResult}
use Rattle.rb_tracker.specs.declared.votes.VoteResult.TheVariants as vote
use Rattle.rb_message.specs.Appends.{PlainAppend}
use Rattle.rb_message.specs.declared.event.EventKind.TheVariants as event
use Rattle.rb_message.specs.Events.{event_at}
use Rattle.rb_message.specs.declared.event.WhyNoCampaign.{WhyNoCampaign}
use Rattle.rb_message.specs.declared.event.WhyReplaced.{WhyReplaced}
use Rattle.rb_message.specs.declared.kind.MessageKind.{MessageKind}
use Rattle.rb_message.specs.declared.kind.MessageKind.TheVariants as kind
use Rattle.rb_message.specs.declared.message.Message.{Message}
use Rattle.rb_message.specs.declared.role.Role.{Role}
use Rattle.rb_message.specs.declared.role.Role.TheVariants as role
use Rattle.rb_node.specs.Calls.{forgotten_by, reported_with, reported_at, reported}
use Rattle.rb_node.specs.Campaigns.{why_no_campaign, candidate, became_candidate, became_precandidate, campaigned_unless, campaigned, became_candidate_unless, campaigned_after_pre_vote}
use Rattle.rb_node.specs.Changing.{transfer_to_non_member_cancelled, views_updated, without_views, missing, continued_after_switch, steps_down, switched, change_applied, body_applied, applied_one, applied_all, leaves_joint, joint_left}
use Rattle.rb_node.specs.Following.{after_log, with_appended, removal_reported, append_entries_handled, snapshot_handled, new_snapshot_handled, leader_contact_recorded}
use Rattle.rb_node.specs.Leading.{can_commit, appended, appended_change, is_log_full, all_sent_append, leading, in_lead, became_leader, with_views, checked_commit}
use Rattle.rb_node.specs.Acknowledging.{append_response_handled, append_refusal_handled, heartbeat_response_handled}
use Rattle.rb_node.specs.Transferring.{transfer_leader_handled}
use Rattle.rb_node.specs.declared.options.Options.{Options}
use Rattle.rb_node.specs.Node.{PlainNode, NodeStep, started, with_event, with_node, with_elapsed, with_heartbeat_elapsed, is_leader, message}
use Rattle.rb_node.specs.Proposing.{why_replaced, change_or_empty_appended, proposal_appended, drops_proposals, proposal_handled}
use Rattle.rb_node.specs.Readying.{own_answers_stepped, applying, saved, advanced}
use Rattle.rb_node.specs.Step.{as_follower, leader_followed, as_precandidate, as_candidate, as_leader, by_role_of, at_term_by, stepped}
use Rattle.rb_node.specs.Terms.{became_follower, stepped_later, stepped_later_by, stepped_earlier_by, answers_earlier}
use Rattle.rb_node.specs.Ticking.{next_count as counted_tick, counters_advanced, heartbeat_sent_to, heartbeat_sent_to_each, due_heartbeats_sent, activity_reset, has_lost_quorum, active_quorum_checked, leader_ticked, is_due, non_leader_ticked, ticked_by}
use Rattle.rb_node.specs.Transferring.{transfer_ended}
use Rattle.rb_node.specs.Votes.{grants, decided, pre_decided, vote_counted, count_of}
use Rattle.rb_node.specs.declared.limits.TheConstants.{ELECTION_TICKS, HEARTBEAT_TICKS}
use Rattle.rb_calls.specs.Calling.{Call, Step, Campaign, Propose, Transfer, Tick, Advance, ForgetLeader, ReportUnreachable, SetTimeout, Compact, compacted_unless, after, run}
use Rattle.rb_laws.specs.Rules.{NoChangePast, LeadsKnowing}
use Rattle.rb_calls.proofs.Goes.{Core, core}
use Rattle.rb_calls.proofs.LeaderLaws.{with_views_only, strangers_only}
use Rattle.rb_laws.proofs.PreVoteLaws.{asked_same, became_precandidate_core}
use Rattle.rb_laws.proofs.SendLaws.{tells_only}
use Rattle.rb_laws.proofs.StandingLaws.{Standing, standing, StandsStill, append_broadcast_standing, accepted_standing, refused_standing, beat_standing, transferred_standing}
use Rattle.rb_laws.proofs.StepCases.{by_term}
use Rattle.rb_calls.proofs.MoveLaws.{compact_within}
use Rattle.rb_calls.proofs.Turns.{own_size}

-- ---- from one node to another

-- what LeadsKnowing looks at
abbrev Knowing : Standing → Type 0
Knowing s = s.role ≡ role.Leader → (s.lead ≡ s.id) × NoChangePast s.log s.pending

still : (a b : PlainNode) → StandsStill a b → LeadsKnowing a → LeadsKnowing b
still a b e h = subst Knowing (sym e) h

abbrev Never : NodeStep → Type 0
Never t = t.node.role ≡ role.Leader → ⊥

never : (t : NodeStep) → Never t → LeadsKnowing t.node
never t none leads = absurd (none leads)

by_role_core : (a b : PlainNode) → core b ≡ core a → (a.role ≡ role.Leader → ⊥) → b.role ≡ role.Leader → ⊥
by_role_core a b e none leads = none (sym (ap (λ (c : Core). c.role) e) ∙ leads)

candidate_never : role.Candidate ≡ role.Leader → ⊥
candidate_never e = cc

follower_never : role.Follower ≡ role.Leader → ⊥
follower_never e = cc

precandidate_never : role.Precandidate ≡ role.Leader → ⊥
precandidate_never e = cc

-- ---- an entry at the end

found_within : (es : List Entry) (k : ℕ) (e : Entry) → found (slice_get es k) ≡ Ok e → k < length es
found_within [] k e is = cc
found_within (x ∷ es) zero e is = omega arith
found_within (x ∷ es) (suc k) e is = let low = found_within es k e is in omega (arith, low)

pub never_held : (v : LogValue) (i : ℕ) (e : Entry) → i ≤ v.base → entry_at v i ≡ Ok e → ⊥
never_held v i e low at = let no = sym (entry_below v i low) ∙ at in cc

pub within_log : (v : LogValue) (i : ℕ) (e : Entry) → entry_at v i ≡ Ok e → i ≤ last v
within_log v i e at =
    by_index v.base (λ (j : ℕ). entry_at v j ≡ Ok e → j ≤ last v) (λ j low _. omega (arith, low)) (λ _. omega arith)
    (λ k is. (let low = found_within v.entries k e (sym (entry_past v k) ∙ is) in omega (arith, low))) i at

pub own_none : (v : LogValue) (e : Entry) (index : ℕ) → (is_change e.body ≡ false) ⊎ (last v + 1 ≤ index) → NoChangePast v index → NoChangePast (own v e) index
own_none v e index plain none i x past at =
    elim (cases_lt (last v) i) as (λ _. is_change x.body ≡ false) [
      | inr within ↦ none i x past (sym (own-held v e i within) ∙ at)
      | inl over ↦
          let far = within_log (own v e) i x at in
          let size = own_size v e in
          let place : i ≡ last v + 1 = omega (arith, over, far, size) in
          elim plain as (λ _. is_change x.body ≡ false) [
            | inl payload ↦
                let here : e ≡ x = ok_is (entry_at (own v e) (last v + 1)) e x (own-last v e) (ap (entry_at (own v e)) (sym place) ∙ at) in
                ap (λ (y : Entry). is_change y.body) (sym here) ∙ payload
            | inr low ↦ absurd (omega (arith, past, low, place))
          ]
    ]

pub nothing_past : (v : LogValue) → NoChangePast v (last v)
nothing_past v i e past at = let within = within_log v i e at in absurd (omega (arith, past, within))

-- ---- what a leader appends

appended_knows : (t : NodeStep) (body : Body) → is_change body ≡ false → LeadsKnowing t.node → LeadsKnowing (appended t body).node
appended_knows t body plain h =
    if_both (λ (u : NodeStep). LeadsKnowing u.node) (is_log_full t.node) _ _ (λ _. h)
    (λ _ leads. (let k = h leads in (k.0, own_none t.node.log (record { term = t.node.term; body = body }) t.node.pending_change (inl plain) k.1)))

-- up to a later index
pub further : (v : LogValue) (low high : ℕ) → low ≤ high → NoChangePast v low → NoChangePast v high
further v low high up none i e past at = none i e (omega (arith, up, past)) at

change_knows : (t : NodeStep) (body : Body) → LeadsKnowing t.node → LeadsKnowing (appended_change t body).node
change_knows t body h =
    if_both (λ (u : NodeStep). LeadsKnowing u.node) (is_log_full t.node) _ _ (λ _. h)
    (λ _ leads. (let k = h leads in (
      k.0,
      own_none t.node.log (record { term = t.node.term; body = body }) (last t.node.log + 1) (inr (omega arith))
          (further t.node.log (last t.node.log) (last t.node.log + 1) (omega arith) (nothing_past t.node.log)),
    )))

put_knows : (o : Option WhyReplaced) (t : NodeStep) (body : Body) → LeadsKnowing t.node → LeadsKnowing (change_or_empty_appended o t body).node
put_knows None t body h = change_knows t body h
put_knows (Some reason) t body h = appended_knows (with_event t (event_at t.node.id (event.ReplacedChange (last t.node.log + 1) reason))) (Payload []) refl h

put_in_knows : (body : Body) (t : NodeStep) → LeadsKnowing t.node → LeadsKnowing (proposal_appended body t).node
put_in_knows (Payload bytes) t h = appended_knows t (Payload bytes) refl h
put_in_knows (Change transition words) t h =
    if_both (λ (u : NodeStep). LeadsKnowing u.node) (is_log_full t.node) _ _ (λ _. h) (λ _. put_knows (why_replaced t.node (length words)) t (Change transition words) h)

all_told_knows : (t : NodeStep) → LeadsKnowing t.node → LeadsKnowing (all_sent_append t).node
all_told_knows t h = still t.node (all_sent_append t).node (append_broadcast_standing t.node) h

proposed_knows : (t : NodeStep) (body : Body) → LeadsKnowing t.node → LeadsKnowing (proposal_handled t body).node
unfolding proposal_handled
proposed_knows t body h =
    if_both (λ (u : NodeStep). LeadsKnowing u.node) (drops_proposals t.node) _ _ (λ _. h) (λ _. all_told_knows (proposal_appended body t) (put_in_knows body t h))

-- ---- a new leader

leading_standing : (n : PlainNode) → standing (leading n) ≡ standing (record (in_lead n) { pending_change = last n.log })
leading_standing n = ap (λ (x : PlainNode). standing (record x { pending_change = last n.log })) (with_views_only (in_lead n) (members n.tracker.config) (not n.options.check_quorum))

leading_knows : (n : PlainNode) → LeadsKnowing (leading n)
leading_knows n = still (record (in_lead n) { pending_change = last n.log }) (leading n) (leading_standing n) (λ _. (refl, nothing_past n.log))

led_knows : (t : NodeStep) → LeadsKnowing (became_leader t).node
unfolding became_leader
led_knows t =
    let u : NodeStep = with_event (with_node t (leading t.node)) (event_at t.node.id (event.Became role.Leader t.node.term)) in
    all_told_knows (appended u (Payload [])) (appended_knows u (Payload []) refl (leading_knows t.node))

-- ---- campaigns

stood_never : (t : NodeStep) (transfer : Bool) → Never (became_candidate t transfer)
stood_never t transfer =
    let n = candidate t.node in
    by_role_core n (became_candidate t transfer).node (asked_same n (voters n.tracker.config) n.term (kind.Vote (last_term n.log) (last n.log) transfer) (kind.VoteResponse true)) candidate_never

pre_vote_never : (t : NodeStep) → Never (became_precandidate t)
pre_vote_never t leads = precandidate_never (sym (ap (λ (c : Core). c.role) (became_precandidate_core t)) ∙ leads)

unless_knows : (o : Option WhyNoCampaign) (t : NodeStep) (transfer : Bool) → LeadsKnowing t.node → LeadsKnowing (campaigned_unless o t transfer).node
unless_knows (Some reason) t transfer h = h
unless_knows None t transfer h =
    if_both (λ (u : NodeStep). LeadsKnowing u.node) (t.node.options.pre_vote && not transfer) (became_precandidate t) (became_candidate t transfer)
    (λ _. never (became_precandidate t) (pre_vote_never t)) (λ _. never (became_candidate t transfer) (stood_never t transfer))

campaigned_knows : (t : NodeStep) (transfer : Bool) → LeadsKnowing t.node → LeadsKnowing (campaigned t transfer).node
unfolding campaigned
campaigned_knows t transfer h = unless_knows (why_no_campaign t.node) t transfer h

stood_unless_knows : (o : Option WhyNoCampaign) (t : NodeStep) → LeadsKnowing t.node → LeadsKnowing (became_candidate_unless o t).node
stood_unless_knows (Some reason) t h = h
stood_unless_knows None t h = never (became_candidate t false) (stood_never t false)

after_pre_vote_knows : (t : NodeStep) → LeadsKnowing t.node → LeadsKnowing (campaigned_after_pre_vote t).node
unfolding campaigned_after_pre_vote
after_pre_vote_knows t h = stood_unless_knows (why_no_campaign t.node) t h

decided_knows : (v : VoteResult) (t : NodeStep) → LeadsKnowing t.node → LeadsKnowing (decided v t).node
decided_knows vote.Won t h = led_knows t
decided_knows vote.Pending t h = h
decided_knows vote.Lost t h = never (became_follower t t.node.term 0) follower_never

pre_decided_knows : (v : VoteResult) (t : NodeStep) → LeadsKnowing t.node → LeadsKnowing (pre_decided v t).node
pre_decided_knows vote.Won t h = after_pre_vote_knows t h
pre_decided_knows vote.Pending t h = h
pre_decided_knows vote.Lost t h = never (became_follower t t.node.term 0) follower_never

-- ---- a follower

after_log_never : (a : Appended) (t : NodeStep) (from : ℕ) (append : PlainAppend) → Never t → Never (after_log a (with_node t (with_appended t.node from append)) from append)
after_log_never (Matched i) t from append none = none
after_log_never (Refused hint) t from append none = none
after_log_never (BelowCommit i) t from append none = none

append_never : (t : NodeStep) (from : ℕ) (append : PlainAppend) → Never t → Never (append_entries_handled t from append)
unfolding append_entries_handled
append_never t from append none = after_log_never (answer t.node.log append.prev append.prev_term append.entries t.node.commit) (removal_reported t append) from append none

snapshot_never : (t : NodeStep) (from : ℕ) (x : Snapshot) → Never t → Never (snapshot_handled t from x)
unfolding snapshot_handled
snapshot_never t from x none =
    if_both Never (nat_le x.index t.node.commit) _ _ (λ _. none)
    (λ _. if_both Never (is_term (term_at t.node.log x.index) x.term) _ (new_snapshot_handled t from x) (λ _. none) (λ _. none))

follower_knows : (k : MessageKind) (t : NodeStep) (m : Message) → Never t → LeadsKnowing (as_follower k t m).node
follower_knows (kind.Append append) t m none = never (append_entries_handled t m.from append) (append_never t m.from append none)
follower_knows (kind.Heartbeat commit) t m none = λ leads. absurd (none leads)
follower_knows (kind.Snapshot snapshot) t m none =
    (let u : NodeStep = with_node t (leader_contact_recorded t.node m.from) in never (snapshot_handled u m.from snapshot) (snapshot_never u m.from snapshot none))
follower_knows (kind.Proposal body) t m none =
    if_both (λ (u : NodeStep). LeadsKnowing u.node) (t.node.lead == 0) _ _ (λ _ leads. absurd (none leads)) (λ _ leads. absurd (none leads))
follower_knows (kind.TransferLeader target) t m none =
    if_both (λ (u : NodeStep). LeadsKnowing u.node) (t.node.lead == 0) _ _ (λ _ leads. absurd (none leads)) (λ _ leads. absurd (none leads))
follower_knows kind.TimeoutNow t m none = campaigned_knows t true (never t none)
follower_knows _ t m none = λ leads. absurd (none leads)

-- ---- at each role

given_knows : (t : NodeStep) (m : Message) → LeadsKnowing (leader_followed t m).node
given_knows t m = follower_knows m.kind (became_follower t t.node.term m.from) m follower_never

precandidate_knows : (k : MessageKind) (t : NodeStep) (m : Message) → LeadsKnowing t.node → LeadsKnowing (as_precandidate k t m).node
precandidate_knows (kind.PreVoteResponse granted) t m h = pre_decided_knows (count_of t.node m.from granted) (vote_counted t m granted) h
precandidate_knows (kind.Append append) t m h = given_knows t m
precandidate_knows (kind.Heartbeat commit) t m h = given_knows t m
precandidate_knows (kind.Snapshot snapshot) t m h = given_knows t m
precandidate_knows _ t m h = h

candidate_knows : (k : MessageKind) (t : NodeStep) (m : Message) → LeadsKnowing t.node → LeadsKnowing (as_candidate k t m).node
candidate_knows (kind.VoteResponse granted) t m h = decided_knows (count_of t.node m.from granted) (vote_counted t m granted) h
candidate_knows (kind.Append append) t m h = given_knows t m
candidate_knows (kind.Heartbeat commit) t m h = given_knows t m
candidate_knows (kind.Snapshot snapshot) t m h = given_knows t m
candidate_knows _ t m h = h

leader_knows : (k : MessageKind) (t : NodeStep) (m : Message) → LeadsKnowing t.node → LeadsKnowing (as_leader k t m).node
leader_knows (kind.Proposal body) t m h = proposed_knows t body h
leader_knows (kind.AppendResponse matched) t m h = still t.node (append_response_handled t m matched).node (accepted_standing t m matched) h
leader_knows (kind.AppendRefusal refused hint) t m h = still t.node (append_refusal_handled t m refused hint).node (refused_standing t m refused hint) h
leader_knows kind.HeartbeatResponse t m h = still t.node (heartbeat_response_handled t m).node (beat_standing t m) h
leader_knows (kind.TransferLeader target) t m h = still t.node (transfer_leader_handled t m target).node (transferred_standing t m target) h
leader_knows _ t m h = h

role_knows : (r : Role) (t : NodeStep) (m : Message) → t.node.role ≡ r → LeadsKnowing t.node → LeadsKnowing (by_role_of r t m).node
role_knows role.Follower t m is h = follower_knows m.kind t m (λ leads. follower_never (sym is ∙ leads))
role_knows role.Precandidate t m is h = precandidate_knows m.kind t m h
role_knows role.Candidate t m is h = candidate_knows m.kind t m h
role_knows role.Leader t m is h = leader_knows m.kind t m h

term_knows : (k : MessageKind) (t : NodeStep) (m : Message) → LeadsKnowing t.node → LeadsKnowing (at_term_by k t m).node
term_knows (kind.Vote last_term last_index transfer) t m h = if_both (λ (u : NodeStep). LeadsKnowing u.node) (grants t.node m last_term last_index false) _ _ (λ _. h) (λ _. h)
term_knows (kind.PreVote last_term last_index) t m h = if_both (λ (u : NodeStep). LeadsKnowing u.node) (grants t.node m last_term last_index true) _ _ (λ _. h) (λ _. h)
term_knows _ t m h = role_knows t.node.role t m refl h

-- ---- of each term

raised_knows : (k : MessageKind) (t : NodeStep) (m : Message) → LeadsKnowing t.node → LeadsKnowing (stepped_later_by k t m).node
raised_knows (kind.PreVote last_term last_index) t m h = h
raised_knows (kind.PreVoteResponse granted) t m h =
    if_both (λ (u : NodeStep). LeadsKnowing u.node) granted t (became_follower t m.term 0) (λ _. h) (λ _. never (became_follower t m.term 0) follower_never)
raised_knows (kind.Append append) t m h = never (became_follower t m.term m.from) follower_never
raised_knows (kind.Heartbeat commit) t m h = never (became_follower t m.term m.from) follower_never
raised_knows (kind.Snapshot snapshot) t m h = never (became_follower t m.term m.from) follower_never
raised_knows _ t m h = never (became_follower t m.term 0) follower_never

lowered_knows : (k : MessageKind) (t : NodeStep) (m : Message) → LeadsKnowing t.node → LeadsKnowing (stepped_earlier_by k t m).node
lowered_knows (kind.PreVote last_term last_index) t m h = h
lowered_knows (kind.Append append) t m h = if_both (λ (u : NodeStep). LeadsKnowing u.node) (answers_earlier t.node) _ _ (λ _. h) (λ _. h)
lowered_knows (kind.Heartbeat commit) t m h = if_both (λ (u : NodeStep). LeadsKnowing u.node) (answers_earlier t.node) _ _ (λ _. h) (λ _. h)
lowered_knows _ t m h = h

stepped_knows : (t : NodeStep) (m : Message) → LeadsKnowing t.node → LeadsKnowing (stepped t m).node
stepped_knows t m h =
    by_term (λ (u : NodeStep). LeadsKnowing u.node) t m
    (λ _. term_knows m.kind t m h)
    (λ _. lowered_knows m.kind t m h)
    (λ _ _. h)
    (λ _ _. term_knows m.kind (stepped_later t m) m (raised_knows m.kind t m h))

-- ---- ticks

beat_standing_still : (n : PlainNode) (id : ℕ) → StandsStill n (heartbeat_sent_to n id)
beat_standing_still n id = if_both (StandsStill n) (id == n.id) _ _ (λ _. refl) (λ _. refl)

beats_standing : (n : PlainNode) (ids : List ℕ) → StandsStill n (heartbeat_sent_to_each n ids)
beats_standing n [] = refl
beats_standing n (id ∷ ids) = beats_standing (heartbeat_sent_to n id) ids ∙ beat_standing_still n id

due_standing : (n : PlainNode) → StandsStill n (due_heartbeats_sent n)
unfolding due_heartbeats_sent
due_standing n =
    if_both (StandsStill n) (nat_le HEARTBEAT_TICKS n.clock.heartbeat_elapsed) _ _ (λ _. beats_standing (with_heartbeat_elapsed n 0) (ids_of n.tracker.views)) (λ _. refl)

ended_standing : (t : NodeStep) → StandsStill t.node (transfer_ended t).node
unfolding transfer_ended
ended_standing t = if_both (λ (u : NodeStep). StandsStill t.node u.node) (t.node.transferee == 0) _ _ (λ _. refl) (λ _. refl)

looked_standing : (n : PlainNode) → StandsStill n (activity_reset n)
looked_standing n = if_both (StandsStill n) n.options.check_quorum _ _ (λ _. refl) (λ _. refl)

quorum_knows : (t : NodeStep) → LeadsKnowing t.node → LeadsKnowing (active_quorum_checked t).node
unfolding active_quorum_checked
quorum_knows t h =
    let v : NodeStep = with_node t (activity_reset t.node) in
    let u : NodeStep = transfer_ended v in
    if_both (λ (x : NodeStep). LeadsKnowing x.node) (has_lost_quorum t.node) _ _ (λ _ leads. absurd (follower_never leads))
    (λ _. still t.node (due_heartbeats_sent u.node) (due_standing u.node ∙ ended_standing v ∙ looked_standing t.node) h)

leader_ticked_knows : (t : NodeStep) → LeadsKnowing t.node → LeadsKnowing (leader_ticked t).node
unfolding leader_ticked
leader_ticked_knows t h =
    let n : PlainNode = counters_advanced t.node in
    if_both (λ (x : NodeStep). LeadsKnowing x.node) (nat_le ELECTION_TICKS n.clock.elapsed) _ _
    (λ _. quorum_knows (with_node t (with_elapsed n 0)) h) (λ _. still t.node (due_heartbeats_sent n) (due_standing n) h)

other_ticked_knows : (t : NodeStep) → LeadsKnowing t.node → LeadsKnowing (non_leader_ticked t).node
unfolding non_leader_ticked
other_ticked_knows t h =
    let n : PlainNode = with_elapsed t.node (counted_tick t.node.clock.elapsed) in
    if_both (λ (x : NodeStep). LeadsKnowing x.node) (is_due n) _ _ (λ _. campaigned_knows (with_node t (with_elapsed n 0)) false h) (λ _. h)

ticked_knows : (r : Role) (t : NodeStep) → LeadsKnowing t.node → LeadsKnowing (ticked_by r t).node
ticked_knows role.Follower t h = other_ticked_knows t h
ticked_knows role.Precandidate t h = other_ticked_knows t h
ticked_knows role.Candidate t h = other_ticked_knows t h
ticked_knows role.Leader t h = leader_ticked_knows t h

-- ---- entries that take effect

given_up_standing : (t : NodeStep) → StandsStill t.node (transfer_to_non_member_cancelled t).node
given_up_standing t = if_both (λ (u : NodeStep). StandsStill t.node u.node) (is_member t.node.tracker.config t.node.transferee) _ _ (λ _. refl) (λ _. ended_standing t)

checked_standing : (n : PlainNode) (ids : List ℕ) → StandsStill n (checked_commit n ids)
unfolding checked_commit
checked_standing n ids =
    if_both (StandsStill n) (can_commit n (commit_of n.tracker)) _ _ (λ _. append_broadcast_standing (record n { commit = commit_of n.tracker })) (λ _. ap standing (tells_only n ids))

revised_standing : (t : NodeStep) → StandsStill t.node (views_updated t).node
unfolding views_updated
revised_standing t =
    let x : PlainNode = without_views t.node (ids_of t.node.tracker.views) in
    let ids = missing x.tracker.views (members x.tracker.config) in
    let u : NodeStep = with_node t (with_views x ids true) in
    checked_standing (transfer_to_non_member_cancelled u).node ids ∙ given_up_standing u ∙ ap standing (with_views_only x ids true) ∙ ap standing (strangers_only t.node (ids_of t.node.tracker.views))

led_on_knows : (t : NodeStep) → LeadsKnowing t.node → LeadsKnowing (continued_after_switch t).node
led_on_knows t h =
    let P : NodeStep → Type 0 = λ u. LeadsKnowing u.node in
    if_both P (is_leader t.node.role) _ t
    (λ _. if_both P (steps_down t.node) _ _ (λ _ leads. absurd (follower_never leads)) (λ _. still t.node (views_updated t).node (revised_standing t) h)) (λ _. h)

switched_knows : (r : Result Config ChangeFault) (t : NodeStep) → LeadsKnowing t.node → LeadsKnowing (switched r t).node
switched_knows (Ok c) t h = led_on_knows (with_event (with_node t (record t.node { tracker = configured t.node.tracker c })) (event_at t.node.id (event.Switched c))) h
switched_knows (Err fault) t h = h

change_applied_knows : (t : NodeStep) (transition : Transition) (words : List Word) → LeadsKnowing t.node → LeadsKnowing (change_applied t transition words).node
unfolding change_applied
change_applied_knows t transition words h = switched_knows (changed t.node.tracker.config transition words) t h

body_knows : (body : Body) (t : NodeStep) → LeadsKnowing t.node → LeadsKnowing (body_applied body t).node
body_knows (Payload bytes) t h = h
body_knows (Change transition words) t h = change_applied_knows t transition words h

all_know : (t : NodeStep) (i : ℕ) (es : List Entry) → LeadsKnowing t.node → LeadsKnowing (applied_all t i es).node
all_know t i [] h = h
all_know t i (e ∷ es) h = all_know (applied_one t (i + 1) e) (i + 1) es (body_knows e.body (with_node t (record t.node { applied = i + 1 })) h)

left_knows : (t : NodeStep) → LeadsKnowing t.node → LeadsKnowing (joint_left t).node
unfolding joint_left
left_knows t h =
    if_both (λ (u : NodeStep). LeadsKnowing u.node) (leaves_joint t.node) _ _ (λ _. all_told_knows (appended_change t (Change Auto [])) (change_knows t (Change Auto []) h)) (λ _. h)

own_knows : (id : ℕ) (t : NodeStep) (ms : List Message) → LeadsKnowing t.node → LeadsKnowing (own_answers_stepped id t ms).node
own_knows id t [] h = h
own_knows id t (m ∷ ms) h =
    own_knows id (if m.to == id then stepped t m else t) ms
    (if_both (λ (u : NodeStep). LeadsKnowing u.node) (m.to == id) (stepped t m) t (λ _. stepped_knows t m h) (λ _. h))

advanced_knows : (t : NodeStep) → LeadsKnowing t.node → LeadsKnowing (advanced t).node
unfolding advanced
advanced_knows t h =
    let u : NodeStep = with_node t (saved t.node) in
    own_knows t.node.id (joint_left (applied_all u t.node.applied (applying t.node))) t.node.waiting
    (left_knows (applied_all u t.node.applied (applying t.node)) (all_know u t.node.applied (applying t.node) h))

-- ---- every call

forgotten_knows : (r : Role) (n : PlainNode) → n.role ≡ r → LeadsKnowing n → LeadsKnowing (forgotten_by r n)
forgotten_knows role.Follower n is h = λ leads. absurd (follower_never (sym is ∙ leads))
forgotten_knows role.Precandidate n is h = h
forgotten_knows role.Candidate n is h = h
forgotten_knows role.Leader n is h = h

reported_with_knows : (o : Option PlainProgress) (n : PlainNode) (at : ℕ) → LeadsKnowing n → LeadsKnowing (reported_with o n at)
reported_with_knows None n at h = h
reported_with_knows (Some view) n at h = h

reported_at_knows : (o : Option ℕ) (n : PlainNode) → LeadsKnowing n → LeadsKnowing (reported_at o n)
reported_at_knows None n h = h
reported_at_knows (Some at) n h = reported_with_knows (view_at n.tracker.views at) n at h

reported_knows : (n : PlainNode) (id : ℕ) → LeadsKnowing n → LeadsKnowing (reported n id)
reported_knows n id h = if_both LeadsKnowing (is_leader n.role) _ _ (λ _. reported_at_knows (place n.tracker.views id) n h) (λ _. h)

pub compacted_none : (v : LogValue) (i index : ℕ) (r : Result ℕ LogFault) → v.base < i → NoChangePast v index → NoChangePast (compacted v i r) index
compacted_none v i index (Err fault) low none = none
compacted_none v i index (Ok term) low none = λ j e past at.
    elim (cases_lt i j) as (λ _. is_change e.body ≡ false) [
      | inl above ↦ none j e past (sym (compacted-entry v i term j low above) ∙ at)
      | inr under ↦ absurd (never_held (compacted v i (Ok term)) j e under at)
    ]

compacted_knows : (o : Option CompactFault) (n : PlainNode) (i : ℕ) → compact_fault n.log i (min n.applied n.log.durable) ≡ o → LeadsKnowing n → LeadsKnowing (compacted_unless o n i)
compacted_knows (Some fault) n i is h = h
compacted_knows None n i is h = λ leads.
    (let k = h leads in (k.0, compacted_none n.log i n.pending_change (term_at n.log i) (compact_within n.log i (min n.applied n.log.durable) is).0 k.1))

pub called_knows : (c : Call) (t : NodeStep) → LeadsKnowing t.node → LeadsKnowing (after c t).node
called_knows (Step m) t h = stepped_knows t m h
called_knows Campaign t h = campaigned_knows t false h
called_knows (Propose body) t h = stepped_knows t (message t.node.id t.node.id 0 (kind.Proposal body)) h
called_knows (Transfer to) t h = stepped_knows t (message t.node.id t.node.id 0 (kind.TransferLeader to)) h
called_knows Tick t h = ticked_knows t.node.role t h
called_knows Advance t h = advanced_knows t h
called_knows ForgetLeader t h = forgotten_knows t.node.role t.node refl h
called_knows (ReportUnreachable id) t h = reported_knows t.node id h
called_knows (SetTimeout ticks) t h = h
called_knows (Compact index) t h = compacted_knows (compact_fault t.node.log index (min t.node.applied t.node.log.durable)) t.node index refl h

pub run_knows : (cs : List Call) (t : NodeStep) → LeadsKnowing t.node → LeadsKnowing (run cs t).node
run_knows [] t h = h
run_knows (c ∷ cs) t h = run_knows cs (after c t) (called_knows c t h)

pub started_knows : (id : ℕ) (start : Snapshot) (options : Options) → LeadsKnowing (started id start options)
started_knows id start options leads = absurd (follower_never leads)
