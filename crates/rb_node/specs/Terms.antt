-- Terms (Ongaro's thesis, section 3.3): a node adopts a later term, and ignores most messages of an earlier one
use Rattle.std.specs.Prelude.{ℕ, Bool, false, ◌&&◌, ◌||◌, not, if◌then◌else◌, nat_lt, ◌==◌}
use Rattle.rb_tracker.specs.Trackers.{cleared}
use Rattle.rb_tracker.specs.Ballots.{no_votes}
use Rattle.rb_message.specs.declared.event.EventKind.TheVariants as event
use Rattle.rb_message.specs.Events.{event_at}
use Rattle.rb_message.specs.declared.event.WhyIgnored.TheVariants as why
use Rattle.rb_message.specs.declared.event.WhyRefused.{WhyRefused}
use Rattle.rb_message.specs.declared.event.WhyRefused.TheVariants as why_not
use Rattle.rb_message.specs.Messages.{type_of}
use Rattle.rb_message.specs.declared.kind.MessageKind.{MessageKind}
use Rattle.rb_message.specs.declared.kind.MessageKind.TheVariants as kind
use Rattle.rb_message.specs.declared.message.Message.{Message}
use Rattle.rb_message.specs.declared.role.Role.TheVariants as role
use Rattle.rb_node.specs.declared.limits.TheConstants.{ELECTION_TICKS}
use Rattle.rb_node.specs.Clocks.{fresh_clock}
use Rattle.rb_node.specs.Node.{PlainNode, NodeStep, with_event, with_node, ignored, answered_with}

-- the beginning of a term: no leader is known, nobody has voted, and a vote of the same term stays
abbrev pub reset : PlainNode → ℕ → PlainNode
reset n term = record n {
  vote = if n.term == term then n.vote else 0;
  term = term;
  lead = 0;
  clock = fresh_clock;
  votes = no_votes;
  tracker = cleared n.tracker;
  transferee = 0;
  pending_change = 0;
}

-- a follower in a term, with or without a known leader
abbrev pub became_follower : NodeStep → ℕ → ℕ → NodeStep
became_follower t term lead =
    with_event (with_node t (record (reset t.node term) { lead = lead; role = role.Follower })) (event_at t.node.id (event.Became role.Follower term))

-- A later term. A question before a vote, and the answer yes to it, name a term that nobody may reach; all else is of a term that
-- somebody has, and what a leader alone sends names the leader.
abbrev pub stepped_later_by : MessageKind → NodeStep → Message → NodeStep
stepped_later_by (kind.PreVote last_term last_index) t m = t
stepped_later_by (kind.PreVoteResponse granted) t m = if granted then t else became_follower t m.term 0
stepped_later_by (kind.Append append) t m = became_follower t m.term m.from
stepped_later_by (kind.Heartbeat commit) t m = became_follower t m.term m.from
stepped_later_by (kind.Snapshot snapshot) t m = became_follower t m.term m.from
stepped_later_by _ t m = became_follower t m.term 0

abbrev pub stepped_later : NodeStep → Message → NodeStep
stepped_later t m = stepped_later_by m.kind t m

-- An earlier term. With pre-vote or with checks of the quorum a node may be stuck at a term that its leader never hears of, so it
-- answers the leader (etcd raft documentation, "PreVote" and "CheckQuorum"); the leader then sees the later term.
abbrev pub answers_earlier : PlainNode → Bool
answers_earlier n = n.options.pre_vote || n.options.check_quorum

-- a message of an earlier term is ignored
abbrev pub earlier_term_ignored : NodeStep → Message → NodeStep
earlier_term_ignored t m = ignored t m (why.EarlierTerm m.term t.node.term)

-- a vote or a pre-vote is refused
abbrev pub refused_vote : NodeStep → Message → WhyRefused → NodeStep
refused_vote t m why = with_event t (event_at t.node.id (event.RefusedVote (type_of m.kind) m.from why))

abbrev pub term_revealed : NodeStep → Message → NodeStep
term_revealed t m =
    if answers_earlier t.node then with_node t (answered_with t.node m.from t.node.term (kind.AppendResponse 0)) else earlier_term_ignored t m

abbrev pub stepped_earlier_by : MessageKind → NodeStep → Message → NodeStep
stepped_earlier_by (kind.PreVote last_term last_index) t m =
    refused_vote (with_node t (answered_with t.node m.from t.node.term (kind.PreVoteResponse false))) m (why_not.EarlierTerm m.term t.node.term)
stepped_earlier_by (kind.Append append) t m = term_revealed t m
stepped_earlier_by (kind.Heartbeat commit) t m = term_revealed t m
stepped_earlier_by _ t m = earlier_term_ignored t m

abbrev pub stepped_earlier : NodeStep → Message → NodeStep
stepped_earlier t m = stepped_earlier_by m.kind t m

-- With `CheckQuorum`, a node that heard from its leader within an election timeout ignores vote requests, so that a removed or partitioned
-- node doesn't disturb the others (Ongaro's thesis, section 4.2.3). A candidate that the leader told to campaign is not ignored.
abbrev pub hears_leader : PlainNode → Bool
hears_leader n = n.options.check_quorum && not (n.lead == 0) && nat_lt n.clock.elapsed ELECTION_TICKS

abbrev pub ignores_campaign : MessageKind → PlainNode → Bool
ignores_campaign (kind.Vote last_term last_index transfer) n = hears_leader n && not transfer
ignores_campaign (kind.PreVote last_term last_index) n = hears_leader n
ignores_campaign _ n = false
