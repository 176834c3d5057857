-- What a node learns from its leader: how far its commit rises, and by what (Ongaro's thesis, sections 3.5 and 5.3)
use Rattle.std.proofs.Common.{[], ◌≡◌, ◌⊎◌, ℕ, ◌+◌, ◌<◌, ◌≤◌, true, false, not, ◌&&◌, ◌==◌, min, max, length, Option, Some, None, Ok, refl, sym, ap, subst, Bool, ◌∙◌, arith, inl, inr, nat_le}
use Rattle.std.proofs.lemmas.Bool.{cases_lt}
use Rattle.rb_raftlog.specs.declared.entry.Body.TheVariants.{Payload}
use Rattle.rb_raftlog.specs.declared.raft_log.Appended.{Appended}
use Rattle.rb_raftlog.specs.declared.raft_log.Appended.TheVariants.{Matched, Refused, BelowCommit}
use Rattle.rb_raftlog.specs.declared.snapshot.Snapshot.{Snapshot}
use Rattle.rb_raftlog.specs.Log.{last, last_term, term_at, is_term, answer, restored}
use Rattle.rb_raftlog.proofs.AnswerLaws.{matched-says, committed-says}
use Rattle.rb_raftlog.proofs.TermLaws.{term_base, is_term_is}
use Rattle.rb_tracker.proofs.SetLaws.{if_both}
use Rattle.rb_tracker.specs.Configs.{voters}
use Rattle.rb_tracker.specs.declared.votes.VoteResult.{VoteResult}
use Rattle.rb_tracker.specs.declared.votes.VoteResult.TheVariants as vote
use Rattle.rb_message.specs.Appends.{PlainAppend}
use Rattle.rb_message.specs.Messages.{has_term}
use Rattle.rb_message.specs.declared.event.EventKind.TheVariants as event
use Rattle.rb_message.specs.Events.{event_at}
use Rattle.rb_message.specs.declared.event.WhyNoCampaign.{WhyNoCampaign}
use Rattle.rb_message.specs.declared.kind.MessageKind.{MessageKind}
use Rattle.rb_message.specs.declared.kind.MessageKind.TheVariants as kind
use Rattle.rb_message.specs.declared.message.Message.{Message}
use Rattle.rb_message.specs.declared.role.Role.{Role}
use Rattle.rb_message.specs.declared.role.Role.TheVariants as role
use Rattle.rb_node.specs.Campaigns.{why_no_campaign, candidate, became_candidate, became_precandidate, campaigned_unless, campaigned, became_candidate_unless, campaigned_after_pre_vote}
use Rattle.rb_node.specs.Following.{after_log, with_appended, removal_reported, append_entries_handled, snapshot_handled, new_snapshot_handled, leader_contact_recorded}
use Rattle.rb_node.specs.Leading.{leading, is_log_full, appended, all_sent_append, became_leader}
use Rattle.rb_node.specs.Node.{PlainNode, NodeStep, with_event, with_node}
use Rattle.rb_node.specs.Step.{as_follower, leader_followed, as_precandidate, as_candidate, as_leader, by_role_of, at_term_by, stepped}
use Rattle.rb_node.specs.Terms.{became_follower, stepped_later_by, stepped_earlier}
use Rattle.rb_node.specs.Votes.{grants, decided, pre_decided, vote_counted, count_of}
use Rattle.rb_calls.specs.Learning.{LearnsBy}
use Rattle.rb_calls.proofs.Goes.{Core}
use Rattle.rb_calls.proofs.LeaderLaws.{leading_same}
use Rattle.rb_laws.proofs.PreVoteLaws.{asked_same, became_precandidate_core, lowered_same}
use Rattle.rb_laws.proofs.SendLaws.{append_broadcast_only}
use Rattle.rb_laws.proofs.StepCases.{by_term}

-- ---- calls that leave the commit

abbrev SameCommit : PlainNode → NodeStep → Type 0
SameCommit n t = t.node.commit ≡ n.commit

stood_commit : (t : NodeStep) (transfer : Bool) → SameCommit t.node (became_candidate t transfer)
stood_commit t transfer =
    let n = candidate t.node in
    ap (λ (c : Core). c.commit) (asked_same n (voters n.tracker.config) n.term (kind.Vote (last_term n.log) (last n.log) transfer) (kind.VoteResponse true))

pre_vote_commit : (t : NodeStep) → SameCommit t.node (became_precandidate t)
pre_vote_commit t = ap (λ (c : Core). c.commit) (became_precandidate_core t)

unless_commit : (o : Option WhyNoCampaign) (t : NodeStep) (transfer : Bool) → SameCommit t.node (campaigned_unless o t transfer)
unless_commit (Some reason) t transfer = refl
unless_commit None t transfer =
    if_both (SameCommit t.node) (t.node.options.pre_vote && not transfer) (became_precandidate t) (became_candidate t transfer) (λ _. pre_vote_commit t) (λ _. stood_commit t transfer)

campaigned_commit : (t : NodeStep) (transfer : Bool) → SameCommit t.node (campaigned t transfer)
unfolding campaigned
campaigned_commit t transfer = unless_commit (why_no_campaign t.node) t transfer

stood_unless_commit : (o : Option WhyNoCampaign) (t : NodeStep) → SameCommit t.node (became_candidate_unless o t)
stood_unless_commit (Some reason) t = refl
stood_unless_commit None t = stood_commit t false

after_pre_vote_commit : (t : NodeStep) → SameCommit t.node (campaigned_after_pre_vote t)
unfolding campaigned_after_pre_vote
after_pre_vote_commit t = stood_unless_commit (why_no_campaign t.node) t

all_told_commit : (t : NodeStep) → SameCommit t.node (all_sent_append t)
all_told_commit t = ap (λ (n : PlainNode). n.commit) (append_broadcast_only t.node)

appended_commit : (t : NodeStep) → SameCommit t.node (appended t (Payload []))
appended_commit t = if_both (SameCommit t.node) (is_log_full t.node) _ _ (λ _. refl) (λ _. refl)

led_commit : (t : NodeStep) → SameCommit t.node (became_leader t)
unfolding became_leader
led_commit t =
    let u : NodeStep = with_event (with_node t (leading t.node)) (event_at t.node.id (event.Became role.Leader t.node.term)) in
    all_told_commit (appended u (Payload [])) ∙ appended_commit u ∙ ap (λ (c : Core). c.commit) (leading_same t.node)

decided_commit : (v : VoteResult) (t : NodeStep) → SameCommit t.node (decided v t)
decided_commit vote.Won t = led_commit t
decided_commit vote.Pending t = refl
decided_commit vote.Lost t = refl

pre_decided_commit : (v : VoteResult) (t : NodeStep) → SameCommit t.node (pre_decided v t)
pre_decided_commit vote.Won t = after_pre_vote_commit t
pre_decided_commit vote.Pending t = refl
pre_decided_commit vote.Lost t = refl

-- ---- a leader's messages

-- a node's commit is as it was, or was learned of by a message
abbrev Learns : PlainNode → MessageKind → NodeStep → Type 0
Learns old k t = (t.node.commit ≡ old.commit) ⊎ LearnsBy k old t.node

-- the greater of what was known and what is told
greater : (known heard : ℕ) → (max known heard ≡ known) ⊎ (max known heard ≡ heard)
greater known heard =
    elim (cases_lt known heard) as (λ _. (max known heard ≡ known) ⊎ (max known heard ≡ heard)) [ inl news ↦ inr (omega (arith, news)) | inr old ↦ inl (omega (arith, old)) ]

answered_learns : (a : Appended) (t : NodeStep) (from : ℕ) (append : PlainAppend) → answer t.node.log append.prev append.prev_term append.entries t.node.commit ≡ a
    → Learns t.node (kind.Append append) (after_log a (with_node t (with_appended t.node from append)) from append)
answered_learns (Matched i) t from append says =
    let n = t.node in
    let to = min append.commit i in
    elim (greater n.commit to) as (λ _. (max n.commit to ≡ n.commit) ⊎ ((max n.commit to ≤ min append.commit (append.prev + length append.entries)) × (term_at n.log append.prev ≡ Ok append.prev_term))) [
      | inl same ↦ inl same
      | inr more ↦ elim (cases_lt append.prev n.commit) as (λ _. (max n.commit to ≡ n.commit) ⊎ ((max n.commit to ≤ min append.commit (append.prev + length append.entries)) × (term_at n.log append.prev ≡ Ok append.prev_term))) [
        | inl under ↦ (let at = (committed-says n.log append.prev append.prev_term n.commit i append.entries under says).0 in inl (omega (arith, at)))
        | inr over ↦ (let said = matched-says n.log append.prev append.prev_term n.commit i append.entries over says in let at = said.1 in inr (omega (arith, at, more), said.0))
      ]
    ]
answered_learns (Refused hint) t from append says = inl refl
answered_learns (BelowCommit i) t from append says = inl refl

append_learns : (t : NodeStep) (from : ℕ) (append : PlainAppend) → Learns t.node (kind.Append append) (append_entries_handled t from append)
unfolding append_entries_handled
append_learns t from append = answered_learns (answer t.node.log append.prev append.prev_term append.entries t.node.commit) (removal_reported t append) from append refl

beat_learns : (n : PlainNode) (commit : ℕ) → (max n.commit (min commit (last n.log)) ≡ n.commit) ⊎ (max n.commit (min commit (last n.log)) ≤ min commit (last n.log))
beat_learns n commit =
    elim (greater n.commit (min commit (last n.log))) as (λ _. (max n.commit (min commit (last n.log)) ≡ n.commit) ⊎ (max n.commit (min commit (last n.log)) ≤ min commit (last n.log))) [
      | inl same ↦ inl same
      | inr more ↦ inr (omega (arith, more))
    ]

snapshot_learns : (t : NodeStep) (from : ℕ) (s : Snapshot) → Learns t.node (kind.Snapshot s) (snapshot_handled t from s)
unfolding snapshot_handled
snapshot_learns t from s =
    let P : NodeStep → Type 0 = Learns t.node (kind.Snapshot s) in
    if_both P (nat_le s.index t.node.commit) _ _ (λ _. inl refl)
    (λ _. if_both P (is_term (term_at t.node.log s.index) s.term) _ (new_snapshot_handled t from s)
    (λ holds. inr (refl, is_term_is (term_at t.node.log s.index) s.term holds))
    (λ _. inr (refl, term_base (restored t.node.log s))))

follower_learns : (k : MessageKind) (t : NodeStep) (m : Message) → Learns t.node k (as_follower k t m)
follower_learns (kind.Append append) t m = append_learns t m.from append
follower_learns (kind.Heartbeat commit) t m = beat_learns t.node commit
follower_learns (kind.Snapshot snapshot) t m = snapshot_learns (with_node t (leader_contact_recorded t.node m.from)) m.from snapshot
follower_learns (kind.Proposal body) t m = if_both (Learns t.node (kind.Proposal body)) (t.node.lead == 0) _ _ (λ _. inl refl) (λ _. inl refl)
follower_learns (kind.TransferLeader target) t m = if_both (Learns t.node (kind.TransferLeader target)) (t.node.lead == 0) _ _ (λ _. inl refl) (λ _. inl refl)
follower_learns kind.TimeoutNow t m = inl (campaigned_commit t true)
follower_learns _ t m = inl refl

-- ---- at every role

-- a node that isn't leading follows the sender first, which leaves its log and its commit
given_learns : (k : MessageKind) (t : NodeStep) (m : Message) → m.kind ≡ k → Learns (became_follower t t.node.term m.from).node k (leader_followed t m)
given_learns k t m is =
    let u : NodeStep = became_follower t t.node.term m.from in
    subst (λ (x : MessageKind). Learns u.node k (as_follower x u m)) (sym is) (follower_learns k u m)

precandidate_learns : (k : MessageKind) (t : NodeStep) (m : Message) → m.kind ≡ k → Learns t.node k (as_precandidate k t m)
precandidate_learns (kind.PreVoteResponse granted) t m is = inl (pre_decided_commit (count_of t.node m.from granted) (vote_counted t m granted))
precandidate_learns (kind.Append append) t m is = given_learns (kind.Append append) t m is
precandidate_learns (kind.Heartbeat commit) t m is = given_learns (kind.Heartbeat commit) t m is
precandidate_learns (kind.Snapshot snapshot) t m is = given_learns (kind.Snapshot snapshot) t m is
precandidate_learns _ t m is = inl refl

candidate_learns : (k : MessageKind) (t : NodeStep) (m : Message) → m.kind ≡ k → Learns t.node k (as_candidate k t m)
candidate_learns (kind.VoteResponse granted) t m is = inl (decided_commit (count_of t.node m.from granted) (vote_counted t m granted))
candidate_learns (kind.Append append) t m is = given_learns (kind.Append append) t m is
candidate_learns (kind.Heartbeat commit) t m is = given_learns (kind.Heartbeat commit) t m is
candidate_learns (kind.Snapshot snapshot) t m is = given_learns (kind.Snapshot snapshot) t m is
candidate_learns _ t m is = inl refl

role_learns : (r : Role) (t : NodeStep) (m : Message) → (r ≡ role.Leader → ⊥) → Learns t.node m.kind (by_role_of r t m)
role_learns role.Follower t m never = follower_learns m.kind t m
role_learns role.Precandidate t m never = precandidate_learns m.kind t m refl
role_learns role.Candidate t m never = candidate_learns m.kind t m refl
role_learns role.Leader t m never = absurd (never refl)

term_learns : (k : MessageKind) (t : NodeStep) (m : Message) → m.kind ≡ k → (t.node.role ≡ role.Leader → ⊥) → Learns t.node k (at_term_by k t m)
term_learns (kind.Vote last_term last_index transfer) t m is never =
    inl (if_both (SameCommit t.node) (grants t.node m last_term last_index false) _ _ (λ _. refl) (λ _. refl))
term_learns (kind.PreVote last_term last_index) t m is never =
    inl (if_both (SameCommit t.node) (grants t.node m last_term last_index true) _ _ (λ _. refl) (λ _. refl))
term_learns _ t m is never = subst (λ (x : MessageKind). Learns t.node x (by_role_of t.node.role t m)) is (role_learns t.node.role t m never)

-- ---- a later term

follows_nobody : role.Follower ≡ role.Leader → ⊥
follows_nobody never = cc

-- an answer to a question before the vote leaves the commit at each role
role_pre_answered : (r : Role) (t : NodeStep) (m : Message) (granted : Bool) → m.kind ≡ kind.PreVoteResponse granted → SameCommit t.node (by_role_of r t m)
role_pre_answered role.Follower t m granted is = subst (λ (x : MessageKind). SameCommit t.node (as_follower x t m)) (sym is) refl
role_pre_answered role.Precandidate t m granted is =
    subst (λ (x : MessageKind). SameCommit t.node (as_precandidate x t m)) (sym is) (pre_decided_commit (count_of t.node m.from granted) (vote_counted t m granted))
role_pre_answered role.Candidate t m granted is = subst (λ (x : MessageKind). SameCommit t.node (as_candidate x t m)) (sym is) refl
role_pre_answered role.Leader t m granted is = subst (λ (x : MessageKind). SameCommit t.node (as_leader x t m)) (sym is) refl

raised_learns : (k : MessageKind) (t : NodeStep) (m : Message) → m.kind ≡ k → Learns t.node k (at_term_by k (stepped_later_by k t m) m)
raised_learns (kind.PreVote last_term last_index) t m is =
    inl (if_both (SameCommit t.node) (grants t.node m last_term last_index true) _ _ (λ _. refl) (λ _. refl))
raised_learns (kind.PreVoteResponse granted) t m is =
    inl (if_both (λ (u : NodeStep). SameCommit t.node (by_role_of u.node.role u m)) granted t (became_follower t m.term 0)
    (λ _. role_pre_answered t.node.role t m granted is) (λ _. role_pre_answered role.Follower (became_follower t m.term 0) m granted is))
raised_learns (kind.Append append) t m is = term_learns (kind.Append append) (became_follower t m.term m.from) m is follows_nobody
raised_learns (kind.Heartbeat commit) t m is = term_learns (kind.Heartbeat commit) (became_follower t m.term m.from) m is follows_nobody
raised_learns (kind.Snapshot snapshot) t m is = term_learns (kind.Snapshot snapshot) (became_follower t m.term m.from) m is follows_nobody
raised_learns (kind.Vote last_term last_index transfer) t m is = term_learns (kind.Vote last_term last_index transfer) (became_follower t m.term 0) m is follows_nobody
raised_learns (kind.VoteResponse granted) t m is = term_learns (kind.VoteResponse granted) (became_follower t m.term 0) m is follows_nobody
raised_learns (kind.AppendResponse matched) t m is = term_learns (kind.AppendResponse matched) (became_follower t m.term 0) m is follows_nobody
raised_learns (kind.AppendRefusal refused hint) t m is = term_learns (kind.AppendRefusal refused hint) (became_follower t m.term 0) m is follows_nobody
raised_learns kind.HeartbeatResponse t m is = term_learns kind.HeartbeatResponse (became_follower t m.term 0) m is follows_nobody
raised_learns (kind.Proposal body) t m is = term_learns (kind.Proposal body) (became_follower t m.term 0) m is follows_nobody
raised_learns (kind.TransferLeader target) t m is = term_learns (kind.TransferLeader target) (became_follower t m.term 0) m is follows_nobody
raised_learns kind.TimeoutNow t m is = term_learns kind.TimeoutNow (became_follower t m.term 0) m is follows_nobody

-- ---- an earlier term

lowered_commit : (t : NodeStep) (m : Message) → SameCommit t.node (stepped_earlier t m)
lowered_commit t m = ap (λ (c : Core). c.commit) (lowered_same m.kind t m)

-- a node that doesn't lead in the message's term learns of a commit by its leader's messages alone
pub commit_learned : (t : NodeStep) (m : Message) → (t.node.role ≡ role.Leader → (has_term m.kind ≡ true) × (t.node.term < m.term)) → ((stepped t m).node.commit ≡ t.node.commit) ⊎ LearnsBy m.kind t.node (stepped t m).node
commit_learned t m steps_down =
    by_term (Learns t.node m.kind) t m
    (λ same. term_learns m.kind t m refl (λ leads. (let d = steps_down leads in let now = same d.0 in let later = d.1 in omega (arith, now, later))))
    (λ _. inl (lowered_commit t m))
    (λ _ _. inl refl)
    (λ _ _. raised_learns m.kind t m refl)
