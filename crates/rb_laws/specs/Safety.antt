-- Leader completeness and state machine safety (Ongaro's thesis, section 3.6.3): what is asked of the nodes' beginnings and of the messages
-- that come, and what a leader then has
use Rattle.std.specs.Prelude.{ℕ, ◌≡◌, ◌+◌, ◌<◌, ◌≤◌, ◌⊎◌, true, false, List, [], Some, Contains, slice_get}
use Rattle.rb_vocab.specs.declared.conf_state.ConfState.{ConfState}
use Rattle.rb_raftlog.specs.Bodies.{is_change}
use Rattle.rb_raftlog.specs.Log.{LogValue, last, entry_at}
use Rattle.rb_message.specs.declared.kind.MessageKind.{MessageKind}
use Rattle.rb_message.specs.declared.kind.MessageKind.TheVariants as kind
use Rattle.rb_message.specs.declared.message.Message.{Message}
use Rattle.rb_node.specs.Node.{PlainNode}
use Rattle.rb_node.specs.Sends.{snapshot_of}
use Rattle.rb_calls.specs.Calling.{Call, Step, Propose}
use Rattle.rb_laws.specs.Network.{Network, Happening, run, Each, IsBegun}

-- ---- premises

-- all logs begin at one index, with one term and one content
abbrev pub BeginAt : ℕ → ℕ → List ℕ → List PlainNode → Type 0
BeginAt index term content nodes =
    (k : ℕ) (n : PlainNode) → slice_get nodes k ≡ Some n → (n.log.base ≡ index) × (n.log.base_term ≡ term) × (n.content ≡ content)

-- messages that anybody may make up: they say nothing about a log, a vote or a commit
abbrev pub IsHarmless : MessageKind → Type 0
IsHarmless (kind.Append append) = ⊥
IsHarmless (kind.Heartbeat commit) = ⊥
IsHarmless (kind.Snapshot snapshot) = ⊥
IsHarmless (kind.Vote last_term last_index transfer) = ⊥
IsHarmless (kind.VoteResponse granted) = granted ≡ true → ⊥
IsHarmless (kind.AppendResponse matched) = ⊥
IsHarmless (kind.Proposal body) = is_change body ≡ false
IsHarmless _ = Unit {0}

-- a message is one of those that may come, and comes to the node that it is for; or it is harmless
abbrev pub IsGenuine : List Message → ℕ → Message → Type 0
IsGenuine said id m = (Contains said m × (m.to ≡ id)) ⊎ IsHarmless m.kind

abbrev pub IsTrueCall : List Message → ℕ → Call → Type 0
IsTrueCall said id (Step m) = IsGenuine said id m
IsTrueCall said id (Propose body) = is_change body ≡ false
IsTrueCall said id _ = Unit {0}

-- a message is a snapshot of the state that a node has, of the node's term
pub record IsStateOf (nodes : List PlainNode) (m : Message) : Type 0 where
  pub place : ℕ
  pub node : PlainNode
  pub at : slice_get nodes place ≡ Some node
  pub is : m.kind ≡ kind.Snapshot (snapshot_of node)
  pub term : m.term ≡ node.term

abbrev pub IsStateCall : List PlainNode → ℕ → Call → Type 0
IsStateCall nodes id (Step m) = IsStateOf nodes m × (m.to ≡ id)
IsStateCall nodes id _ = ⊥

-- Each message that comes was put out by a node, or is a snapshot of the state that one has when it comes, and comes to the node that it is
-- for; or it is harmless.
abbrev pub IsTrueHappening : Network → Happening → Type 0
IsTrueHappening s h = IsTrueCall s.said (h.place + 1) h.call ⊎ IsStateCall s.nodes (h.place + 1) h.call

abbrev pub AreTrue : List Happening → Network → Type 0
AreTrue hs s = Each IsTrueHappening hs s

-- All nodes start alike: with the same members, not joint, and at one index, of one term, which is at most 1, with one content.
pub record StartsAlike (s : Network) : Type 0 where
  pub members : ConfState
  pub index : ℕ
  pub term : ℕ
  pub content : List ℕ
  pub single : members.outgoing ≡ []
  pub low : term ≤ 1
  pub begun : IsBegun members s
  pub begins : BeginAt index term content s.nodes

-- a network of Raft's nodes, at two moments of a run: its nodes start alike, and all that happens up to each moment is true
pub record IsRaftNetwork (s : Network) (earlier later : List Happening) : Type 0 where
  pub starts : StartsAlike s
  pub before : AreTrue earlier s
  pub since : AreTrue later (run earlier s)

-- ---- the theorems

-- two logs have the same entries up to an index, as far as both still have them
pub record HasSameUpTo (v w : LogValue) (i : ℕ) : Type 0 where
  pub entries : (j : ℕ) → j ≤ i → v.base < j → w.base < j → entry_at v j ≡ entry_at w j

-- a leader has all that another node knows to be committed
pub record HasCommitted (n l : PlainNode) : Type 0 where
  pub reaches : n.commit ≤ last l.log
  pub same : HasSameUpTo n.log l.log n.commit
