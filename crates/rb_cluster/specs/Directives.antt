-- What directives do, in the words of their names (etcd raft's interaction tests)
use Rattle.std.specs.Prelude.{ℕ, ◌≡◌, ◌+◌, ◌≤◌, false, List, [], ◌∷◌, length, take, Option, Some, None, Ok, Contains, if◌then◌else◌, ◌==◌}
use Rattle.rb_script.specs.Directive.{PlainDirective}
use Rattle.rb_directive.specs.declared.build.Asked.{Asked}
use Rattle.rb_directive.specs.declared.requests.Request.{Request}
use Rattle.rb_directive.specs.Requests.{request}
use Rattle.rb_message.specs.declared.message.Message.{Message}
use Rattle.rb_node.specs.Node.{PlainNode, node_step}
use Rattle.rb_node.specs.Readying.{has_ready}
use Rattle.rb_node.specs.Step.{stepped}
use Rattle.rb_machine.specs.declared.limits.TheConstants.{MAX_PENDING}
use Rattle.rb_machine.specs.Cluster.{Cluster, node_at}
use Rattle.rb_machine.specs.Outcome.{refusal}

-- a directive asks for something, and isn't refused
pub record Does (c : Cluster) (d : PlainDirective) (r : Request) : Type 0 where
  pub asked : Asked
  pub reads : request d ≡ Ok asked
  pub is : asked.request ≡ r
  pub may : refusal d c ≡ None

-- ---- messages

-- the messages to a node, in order
abbrev pub addressed : ℕ → List Message → List Message
addressed id [] = []
addressed id (m ∷ ms) = if m.to == id then m ∷ addressed id ms else addressed id ms

-- the messages to others, in order
abbrev pub elsewhere : ℕ → List Message → List Message
elsewhere id [] = []
elsewhere id (m ∷ ms) = if m.to == id then elsewhere id ms else m ∷ elsewhere id ms

-- the first of some messages, or all if there is no number
abbrev pub first_few : Option ℕ → List Message → List Message
first_few None ms = ms
first_few (Some n) ms = take n ms

-- a node after messages, the first of them first
abbrev pub after_all : PlainNode → List Message → PlainNode
after_all n [] = n
after_all n (m ∷ ms) = after_all (stepped (node_step n []) m).node ms

-- more messages can be in flight
abbrev pub HasRoom : Cluster → List Message → Type 0
HasRoom c ms = length c.pending + length ms ≤ MAX_PENDING

-- ---- stabilize

-- a node has nothing ready, and no message to it is in flight
pub record IsIdle (c : Cluster) (id : ℕ) : Type 0 where
  pub ready : (n : PlainNode) → node_at c id ≡ Some n → has_ready n ≡ false
  pub mail : (m : Message) → Contains c.pending m → m.to ≡ id → ⊥
