-- The types of messages. (etcd raft's names.)
use Rattle.std.specs.Prelude.{ℕ, if◌then◌else◌, codes, List, [], ◌∷◌, Option, Some, None, map, slice_index_or}
use Rattle.std.specs.Str.{bytes_eq}
use denote.Enum.Declared.{tag_of}
use Rattle.rb_vocab.specs.contracts.message_type.MessageType.{the_type}
use Rattle.rb_vocab.specs.declared.message_type.MessageClass.{MessageClass}
use Rattle.rb_vocab.specs.declared.message_type.MessageClass.TheVariants as classes
use Rattle.rb_vocab.specs.declared.message_type.MessageType.{MessageType}
use Rattle.rb_vocab.specs.declared.message_type.MessageType.TheVariants as types
use Rattle.rb_vocab.specs.declared.message_type.TheConstants.{TYPE_ROWS}

-- ---- a type

-- its name, and what its messages are about
abbrev pub type_row : MessageType → List ℕ × MessageClass
type_row types.Vote = (codes "MsgVote", classes.Vote)
type_row types.PreVote = (codes "MsgPreVote", classes.Vote)
type_row types.VoteResponse = (codes "MsgVoteResp", classes.Vote)
type_row types.PreVoteResponse = (codes "MsgPreVoteResp", classes.Vote)
type_row types.Append = (codes "MsgApp", classes.Append)
type_row types.AppendResponse = (codes "MsgAppResp", classes.Append)
type_row types.Heartbeat = (codes "MsgHeartbeat", classes.Heartbeat)
type_row types.Snapshot = (codes "MsgSnap", classes.Snapshot)
type_row types.Proposal = (codes "MsgProp", classes.Proposal)
type_row types.TransferLeader = (codes "MsgTransferLeader", classes.Proposal)
type_row types.HeartbeatResponse = (codes "MsgHeartbeatResp", classes.Heartbeat)
type_row types.TimeoutNow = (codes "MsgTimeoutNow", classes.Vote)
type_row types.Unreachable = (codes "MsgUnreachable", classes.Proposal)

abbrev pub type_text : MessageType → List ℕ
type_text t = (type_row t).0

abbrev pub class_of : MessageType → MessageClass
class_of t = (type_row t).1

abbrev pub class_text : MessageClass → List ℕ
class_text classes.Vote = codes "vote"
class_text classes.Append = codes "append"
class_text classes.Heartbeat = codes "heartbeat"
class_text classes.Snapshot = codes "snapshot"
class_text classes.Proposal = codes "proposal"

-- the position of its variant
abbrev pub type_number : MessageType → ℕ
type_number t = tag_of the_type t

-- ---- all types, in the order of the variants

abbrev pub all_types : List MessageType
all_types = map (λ row. row.0) TYPE_ROWS.now

-- what the messages of each are, in a line of help
abbrev pub meanings : List (List ℕ)
meanings = map (λ row. row.2.now) TYPE_ROWS.now

abbrev pub meaning_of : MessageType → List ℕ
meaning_of t = slice_index_or meanings (type_number t) []

-- ---- names

-- the first of these with this name
abbrev pub type_in : List MessageType → List ℕ → Option MessageType
type_in [] name = None
type_in (t ∷ some) name = if bytes_eq (type_text t) name then Some t else type_in some name

-- the type with this name
unfoldable pub type_of : List ℕ → Option MessageType
type_of name = type_in all_types name
