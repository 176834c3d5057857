-- Campaigns (Ongaro's thesis, section 3.4, and section 9.6 for pre-votes)
use Rattle.std.specs.Prelude.{ℕ, ◌+◌, Bool, true, false, ◌&&◌, not, List, [], ◌∷◌, Option, Some, None, if◌then◌else◌, nat_le, ◌==◌}
use Rattle.rb_raftlog.specs.declared.limits.TheConstants.{MAX_TERM}
use Rattle.rb_raftlog.specs.Log.{last, last_term, has_change}
use Rattle.rb_tracker.specs.Ballots.{no_votes}
use Rattle.rb_tracker.specs.Configs.{voters, is_voter}
use Rattle.rb_message.specs.declared.event.WhyNoCampaign.{WhyNoCampaign}
use Rattle.rb_message.specs.declared.event.WhyNoCampaign.TheVariants as why
use Rattle.rb_message.specs.declared.event.EventKind.TheVariants as event
use Rattle.rb_message.specs.Events.{event_at}
use Rattle.rb_message.specs.declared.kind.MessageKind.{MessageKind}
use Rattle.rb_message.specs.declared.kind.MessageKind.TheVariants as kind
use Rattle.rb_message.specs.declared.role.Role.TheVariants as role
use Rattle.rb_node.specs.declared.limits.TheConstants.{ELECTION_TICKS}
use Rattle.rb_node.specs.Node.{PlainNode, NodeStep, with_event, with_node, posted_at, answered_with, is_leader, with_timeout}
use Rattle.rb_node.specs.Terms.{reset}

-- the first reason that keeps the node from campaigning (this project's order)
abbrev pub why_no_campaign : PlainNode → Option WhyNoCampaign
why_no_campaign n =
    if is_leader n.role then Some why.Leader
    else (if not (is_voter n.tracker.config n.id) then Some why.NotAVoter
    else (if n.restored then Some why.SnapshotPending
    else (if has_change n.log n.applied n.commit then Some why.ChangePending
    else (if nat_le MAX_TERM n.term then Some why.TermLimit
    else None))))

-- a voter gets a request; the node answers itself instead, after its ready is durable
abbrev pub asked_one : PlainNode → ℕ → ℕ → MessageKind → MessageKind → PlainNode
asked_one n to term question answer =
    if to == n.id then answered_with n to term answer
    else posted_at n to term question

abbrev pub asked : PlainNode → List ℕ → ℕ → MessageKind → MessageKind → PlainNode
asked n [] term question answer = n
asked n (id ∷ ids) term question answer = asked (asked_one n id term question answer) ids term question answer

abbrev pub asked_for_votes : PlainNode → Bool → PlainNode
asked_for_votes n transfer =
    asked n (voters n.tracker.config) n.term (kind.Vote (last_term n.log) (last n.log) transfer) (kind.VoteResponse true)

abbrev pub asked_for_pre_votes : PlainNode → PlainNode
asked_for_pre_votes n =
    asked n (voters n.tracker.config) (n.term + 1) (kind.PreVote (last_term n.log) (last n.log)) (kind.PreVoteResponse true)

-- a candidate of the next term votes for itself
abbrev pub candidate : PlainNode → PlainNode
candidate n = record (reset n (n.term + 1)) { vote = n.id; role = role.Candidate }

abbrev pub became_candidate : NodeStep → Bool → NodeStep
became_candidate t transfer =
    with_event (with_node t (asked_for_votes (candidate t.node) transfer)) (event_at t.node.id (event.Became role.Candidate (t.node.term + 1)))

-- a precandidate changes neither its term nor its vote
abbrev pub precandidate : PlainNode → PlainNode
precandidate n = record (with_timeout n ELECTION_TICKS) { role = role.Precandidate; votes = no_votes; lead = 0 }

abbrev pub became_precandidate : NodeStep → NodeStep
became_precandidate t =
    with_event (with_node t (asked_for_pre_votes (precandidate t.node))) (event_at t.node.id (event.Became role.Precandidate t.node.term))

-- a campaign; one for a leadership transfer skips the pre-vote
abbrev pub campaigned_unless : Option WhyNoCampaign → NodeStep → Bool → NodeStep
campaigned_unless (Some reason) t transfer = with_event t (event_at t.node.id (event.CannotCampaign reason))
campaigned_unless None t transfer = if t.node.options.pre_vote && not transfer then became_precandidate t else became_candidate t transfer

unfoldable pub campaigned : NodeStep → Bool → NodeStep
campaigned t transfer = campaigned_unless (why_no_campaign t.node) t transfer

-- the campaign after a won pre-vote
abbrev pub became_candidate_unless : Option WhyNoCampaign → NodeStep → NodeStep
became_candidate_unless (Some reason) t = with_event t (event_at t.node.id (event.CannotCampaign reason))
became_candidate_unless None t = became_candidate t false

unfoldable pub campaigned_after_pre_vote : NodeStep → NodeStep
campaigned_after_pre_vote t = became_candidate_unless (why_no_campaign t.node) t
