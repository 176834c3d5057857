-- Votes (Ongaro's thesis, sections 3.4 and 3.6.1): granting and counting them
use Rattle.std.specs.Prelude.{ℕ, Bool, true, false, ◌&&◌, ◌||◌, if◌then◌else◌, nat_lt, ◌==◌}
use Rattle.rb_raftlog.specs.Log.{last, last_term, is_up_to_date}
use Rattle.rb_tracker.specs.Ballots.{answered, vote_result}
use Rattle.rb_tracker.specs.declared.votes.VoteResult.{VoteResult}
use Rattle.rb_tracker.specs.declared.votes.VoteResult.TheVariants as vote
use Rattle.rb_message.specs.Messages.{type_of}
use Rattle.rb_message.specs.declared.event.EventKind.TheVariants as event
use Rattle.rb_message.specs.Events.{event_at}
use Rattle.rb_message.specs.declared.event.WhyRefused.{WhyRefused}
use Rattle.rb_message.specs.declared.event.WhyRefused.TheVariants as why_not
use Rattle.rb_message.specs.declared.kind.MessageKind.TheVariants as kind
use Rattle.rb_message.specs.declared.message.Message.{Message}
use Rattle.rb_node.specs.Node.{PlainNode, NodeStep, with_event, with_node, answered_with, with_elapsed}
use Rattle.rb_node.specs.Terms.{became_follower, refused_vote}
use Rattle.rb_node.specs.Campaigns.{campaigned_after_pre_vote}
use Rattle.rb_node.specs.Leading.{became_leader}

-- A vote is given once a term. A node that gave none, and knows no leader, may vote for anybody. A pre-vote binds nobody, so one for a
-- later term is always possible.
abbrev pub can_vote_for : PlainNode → Message → Bool → Bool
can_vote_for n m pre_vote = n.vote == m.from || (n.vote == 0 && n.lead == 0) || (pre_vote && nat_lt n.term m.term)

-- the candidate's log must also be as up to date as the voter's
abbrev pub grants : PlainNode → Message → ℕ → ℕ → Bool → Bool
grants n m last_term last_index pre_vote = can_vote_for n m pre_vote && is_up_to_date n.log last_index last_term

-- The reason for a refusal: the candidate's log is older, or another node has the vote, or a leader is known.
abbrev pub why_no_vote : PlainNode → WhyRefused
why_no_vote n = if n.vote == 0 then why_not.KnowsLeader n.term n.lead else why_not.Voted n.term n.vote

abbrev pub why_refused : PlainNode → Message → ℕ → ℕ → Bool → WhyRefused
why_refused n m term index pre_vote =
    if can_vote_for n m pre_vote then why_not.OlderLog term index (last_term n.log) (last n.log) else why_no_vote n

abbrev pub voted_for : PlainNode → ℕ → PlainNode
voted_for n id = record (with_elapsed n 0) { vote = id }

-- a grant has the term of the request, a refusal the node's own
abbrev pub vote_request_handled : NodeStep → Message → ℕ → ℕ → NodeStep
vote_request_handled t m last_term last_index =
    if grants t.node m last_term last_index false
    then with_node t (answered_with (voted_for t.node m.from) m.from m.term (kind.VoteResponse true))
    else refused_vote (with_node t (answered_with t.node m.from t.node.term (kind.VoteResponse false))) m (why_refused t.node m last_term last_index false)

abbrev pub pre_vote_request_handled : NodeStep → Message → ℕ → ℕ → NodeStep
pre_vote_request_handled t m last_term last_index =
    if grants t.node m last_term last_index true
    then with_node t (answered_with t.node m.from m.term (kind.PreVoteResponse true))
    else refused_vote (with_node t (answered_with t.node m.from t.node.term (kind.PreVoteResponse false))) m (why_refused t.node m last_term last_index true)

-- the first response of each voter counts
abbrev pub count_of : PlainNode → ℕ → Bool → VoteResult
count_of n from granted = vote_result n.tracker.config (answered n.votes from granted)

abbrev pub vote_counted : NodeStep → Message → Bool → NodeStep
vote_counted t m granted =
    with_event (with_node t (record t.node { votes = answered t.node.votes m.from granted }))
    (event_at t.node.id (event.VoteCounted (type_of m.kind) granted m.from (count_of t.node m.from granted)))

-- what a candidate does, by the result of the vote
abbrev pub decided : VoteResult → NodeStep → NodeStep
decided vote.Won t = became_leader t
decided vote.Pending t = t
decided vote.Lost t = became_follower t t.node.term 0

-- a precandidate that could win campaigns
abbrev pub pre_decided : VoteResult → NodeStep → NodeStep
pre_decided vote.Won t = campaigned_after_pre_vote t
pre_decided vote.Pending t = t
pre_decided vote.Lost t = became_follower t t.node.term 0

abbrev pub vote_response_handled : NodeStep → Message → Bool → NodeStep
vote_response_handled t m granted = decided (count_of t.node m.from granted) (vote_counted t m granted)

abbrev pub pre_vote_response_handled : NodeStep → Message → Bool → NodeStep
pre_vote_response_handled t m granted = pre_decided (count_of t.node m.from granted) (vote_counted t m granted)
