-- What the directives of a script may ask for
use Rattle.std.specs.Prelude.{ℕ, ◌≡◌, ◌+◌, ◌≤◌, ◌<◌, List, length, Some, None}
use Rattle.rb_directive.specs.declared.limits.TheConstants.{MAX_NODES}
use Rattle.rb_directive.specs.declared.requests.AddNodes.{AddNodes}
use Rattle.rb_node.specs.Node.{PlainNode}

-- Nodes may be added: they aren't too many, and start at an index above 1, or at none, with no members and no content.
pub record MayBeAdded (asked : AddNodes) (nodes : List PlainNode) : Type 0 where
  pub few : length nodes + asked.count ≤ MAX_NODES
  pub above : (index : ℕ) → asked.index ≡ Some index → 2 ≤ index
  pub bare : asked.index ≡ None → (asked.voters ≡ None) × (asked.learners ≡ None) × (asked.content ≡ None)

-- a log may be compacted up to an index: the entry there is still in it, applied and durable
pub record MayBeCompacted (n : PlainNode) (index : ℕ) : Type 0 where
  pub held : n.log.base < index
  pub applied : index ≤ n.applied
  pub durable : index ≤ n.log.durable
