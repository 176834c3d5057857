-- Nodes, and what becomes of what they say: a message may be lost, may come late, more than once, and in any order (Ongaro's thesis,
-- section 2.1)
use Rattle.std.specs.Prelude.{ℕ, ◌≡◌, ◌+◌, List, [], ◌∷◌, ◌++◌, Option, Some, None, slice_get, slice_set}
use Rattle.rb_vocab.specs.declared.conf_state.ConfState.{ConfState}
use Rattle.rb_raftlog.specs.declared.snapshot.Snapshot.{Snapshot}
use Rattle.rb_message.specs.declared.event.Event.{Event}
use Rattle.rb_message.specs.declared.message.Message.{Message}
use Rattle.rb_message.specs.declared.role.Role.TheVariants.{Leader}
use Rattle.rb_node.specs.declared.options.Options.{Options}
use Rattle.rb_node.specs.Node.{PlainNode, node_step, started}
use Rattle.rb_calls.specs.Calling.{Call, Advance, after}

pub record Network : Type 0 where
  -- the node with id 1, that with id 2, and so on
  pub nodes : List PlainNode
  -- all that a node has put out so far, its answers to itself among it
  pub said : List Message

-- ---- steps

-- A call of the node at a place, whose id is one more. A message comes by `Step`; one that is lost never does. What the node told before
-- decides nothing.
pub record Happening : Type 0 where
  pub place : ℕ
  pub call : Call
  pub told : List Event

-- the messages that a node puts out when it is ready
abbrev pub put_out : Call → PlainNode → List Message
put_out Advance n = n.sent ++ n.waiting
put_out _ n = []

abbrev pub happened_to : Option PlainNode → Network → Happening → Network
happened_to None s h = s
happened_to (Some n) s h = record {
  nodes = slice_set s.nodes h.place (after h.call (node_step n h.told)).node;
  said = s.said ++ put_out h.call n;
}

-- the network after a step
abbrev pub happened : Network → Happening → Network
happened s h = happened_to (slice_get s.nodes h.place) s h

-- and after one thing upon another
abbrev pub run : List Happening → Network → Network
run [] s = s
run (h ∷ hs) s = run hs (happened s h)

-- each thing that happens keeps a rule, where it happens
abbrev pub Each : (Network → Happening → Type 0) → List Happening → Network → Type 0
Each rule [] s = Unit {0}
Each rule (h ∷ hs) s = rule s h × Each rule hs (happened s h)

-- ---- where it begins, and who leads

-- a node starts with some members, wherever its log begins
pub record IsStarted (members : ConfState) (id : ℕ) (n : PlainNode) : Type 0 where
  pub start : Snapshot
  pub options : Options
  pub config : start.config ≡ members
  pub is : n ≡ started id start options

-- the nodes have the ids of their places, and all start with the same members
abbrev pub AreStarted : ConfState → List PlainNode → Type 0
AreStarted members nodes = (k : ℕ) (n : PlainNode) → slice_get nodes k ≡ Some n → IsStarted members (k + 1) n

-- and nothing was said
pub record IsBegun (members : ConfState) (s : Network) : Type 0 where
  pub started : AreStarted members s.nodes
  pub silent : s.said ≡ []

-- the node with an id leads in a term
pub record Leads (nodes : List PlainNode) (id term : ℕ) : Type 0 where
  pub place : ℕ
  pub node : PlainNode
  pub stands : slice_get nodes place ≡ Some node
  pub leads : node.role ≡ Leader
  pub of_term : node.term ≡ term
  pub of_id : node.id ≡ id
