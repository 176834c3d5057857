-- Messages between nodes (Ongaro's thesis, sections 3.4 and 3.5; etcd raft documentation, "MessageType")
use Rattle.std.specs.Prelude.{Bool, true, false}
use Rattle.rb_vocab.specs.declared.message_type.MessageType.{MessageType}
use Rattle.rb_vocab.specs.declared.message_type.MessageType.TheVariants as type
use Rattle.rb_message.specs.declared.kind.MessageKind.{MessageKind}
use Rattle.rb_message.specs.declared.kind.MessageKind.TheVariants as kind

-- the type of a message
abbrev pub type_of : MessageKind → MessageType
type_of (kind.Vote last_term last_index transfer) = type.Vote
type_of (kind.PreVote last_term last_index) = type.PreVote
type_of (kind.VoteResponse granted) = type.VoteResponse
type_of (kind.PreVoteResponse granted) = type.PreVoteResponse
type_of (kind.Append append) = type.Append
type_of (kind.AppendResponse matched) = type.AppendResponse
type_of (kind.AppendRefusal refused hint) = type.AppendResponse
type_of (kind.Heartbeat commit) = type.Heartbeat
type_of kind.HeartbeatResponse = type.HeartbeatResponse
type_of (kind.Snapshot snapshot) = type.Snapshot
type_of (kind.Proposal body) = type.Proposal
type_of (kind.TransferLeader target) = type.TransferLeader
type_of kind.TimeoutNow = type.TimeoutNow

-- a proposal and a request to transfer leadership have no term: a leader of any term handles them
abbrev pub has_term : MessageKind → Bool
has_term (kind.Proposal body) = false
has_term (kind.TransferLeader target) = false
has_term _ = true
