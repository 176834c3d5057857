-- Stepping a message: three cases of its term, and then the table of roles (etcd raft documentation, "MessageType")
use Rattle.std.specs.Prelude.{true, ◌||◌, not, if◌then◌else◌, nat_lt, ◌==◌}
use Rattle.rb_message.specs.Messages.{has_term}
use Rattle.rb_message.specs.declared.event.EventKind.TheVariants as event
use Rattle.rb_message.specs.Events.{event_at}
use Rattle.rb_message.specs.declared.event.WhyIgnored.TheVariants as why
use Rattle.rb_message.specs.declared.kind.MessageKind.{MessageKind}
use Rattle.rb_message.specs.declared.kind.MessageKind.TheVariants as kind
use Rattle.rb_message.specs.declared.message.Message.{Message}
use Rattle.rb_message.specs.declared.role.Role.{Role}
use Rattle.rb_message.specs.declared.role.Role.TheVariants as role
use Rattle.rb_node.specs.Node.{NodeStep, with_event, with_node, ignored}
use Rattle.rb_node.specs.Terms.{became_follower, stepped_later, stepped_earlier, ignores_campaign}
use Rattle.rb_node.specs.Campaigns.{campaigned}
use Rattle.rb_node.specs.Votes.{vote_request_handled, pre_vote_request_handled, vote_response_handled, pre_vote_response_handled}
use Rattle.rb_node.specs.Following.{leader_contact_recorded, heartbeat_handled, append_entries_handled, snapshot_handled, proposal_forwarded, transfer_forwarded}
use Rattle.rb_node.specs.Acknowledging.{append_response_handled, append_refusal_handled, heartbeat_response_handled}
use Rattle.rb_node.specs.Proposing.{proposal_handled}
use Rattle.rb_node.specs.Transferring.{transfer_leader_handled}

-- ---- the table: every pair that it lacks is ignored

abbrev pub as_follower : MessageKind → NodeStep → Message → NodeStep
as_follower (kind.Append append) t m = append_entries_handled t m.from append
as_follower (kind.Heartbeat commit) t m = with_node t (heartbeat_handled t.node m.from commit)
as_follower (kind.Snapshot snapshot) t m = snapshot_handled (with_node t (leader_contact_recorded t.node m.from)) m.from snapshot
as_follower (kind.Proposal body) t m = proposal_forwarded t (kind.Proposal body)
as_follower (kind.TransferLeader target) t m = transfer_forwarded t (kind.TransferLeader target) m
as_follower kind.TimeoutNow t m = campaigned t true
as_follower _ t m = ignored t m (why.NoUse role.Follower)

-- a candidate that hears from the leader of its term follows it
abbrev pub leader_followed : NodeStep → Message → NodeStep
leader_followed t m = as_follower m.kind (became_follower t t.node.term m.from) m

abbrev pub as_precandidate : MessageKind → NodeStep → Message → NodeStep
as_precandidate (kind.PreVoteResponse granted) t m = pre_vote_response_handled t m granted
as_precandidate (kind.Append append) t m = leader_followed t m
as_precandidate (kind.Heartbeat commit) t m = leader_followed t m
as_precandidate (kind.Snapshot snapshot) t m = leader_followed t m
as_precandidate (kind.Proposal body) t m = with_event t (event_at t.node.id event.DroppedProposal)
as_precandidate _ t m = ignored t m (why.NoUse role.Precandidate)

abbrev pub as_candidate : MessageKind → NodeStep → Message → NodeStep
as_candidate (kind.VoteResponse granted) t m = vote_response_handled t m granted
as_candidate (kind.Append append) t m = leader_followed t m
as_candidate (kind.Heartbeat commit) t m = leader_followed t m
as_candidate (kind.Snapshot snapshot) t m = leader_followed t m
as_candidate (kind.Proposal body) t m = with_event t (event_at t.node.id event.DroppedProposal)
as_candidate _ t m = ignored t m (why.NoUse role.Candidate)

abbrev pub as_leader : MessageKind → NodeStep → Message → NodeStep
as_leader (kind.Proposal body) t m = proposal_handled t body
as_leader (kind.AppendResponse matched) t m = append_response_handled t m matched
as_leader (kind.AppendRefusal refused hint) t m = append_refusal_handled t m refused hint
as_leader kind.HeartbeatResponse t m = heartbeat_response_handled t m
as_leader (kind.TransferLeader target) t m = transfer_leader_handled t m target
as_leader _ t m = ignored t m (why.NoUse role.Leader)

abbrev pub by_role_of : Role → NodeStep → Message → NodeStep
by_role_of role.Follower t m = as_follower m.kind t m
by_role_of role.Precandidate t m = as_precandidate m.kind t m
by_role_of role.Candidate t m = as_candidate m.kind t m
by_role_of role.Leader t m = as_leader m.kind t m

abbrev pub by_role : NodeStep → Message → NodeStep
by_role t m = by_role_of t.node.role t m

-- ---- the term

-- vote requests are handled the same in every role
abbrev pub at_term_by : MessageKind → NodeStep → Message → NodeStep
at_term_by (kind.Vote last_term last_index transfer) t m = vote_request_handled t m last_term last_index
at_term_by (kind.PreVote last_term last_index) t m = pre_vote_request_handled t m last_term last_index
at_term_by _ t m = by_role t m

abbrev pub at_term : NodeStep → Message → NodeStep
at_term t m = at_term_by m.kind t m

-- a message of an earlier term is handled separately; a later term is adopted first
unfoldable pub stepped : NodeStep → Message → NodeStep
stepped t m =
    if not (has_term m.kind) || m.term == t.node.term then at_term t m
    else (if nat_lt m.term t.node.term then stepped_earlier t m
    else (if ignores_campaign m.kind t.node then ignored t m (why.HearsLeader t.node.lead)
    else at_term (stepped_later t m) m))
