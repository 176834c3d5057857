-- The nodes that are left come to the same.
use Rattle.std.proofs.Common.{◌≡◌, drop}
use Rattle.rb_editor.specs.Hints.{NOBODY, with_nodes}
use Rattle.rb_editor.proofs.actions.leadership.with_nodes.Given as goal

abbrev pub invariant-loop-shared : goal.invariant-loop-shared
invariant-loop-shared g l = with_nodes l.known (drop l.shared-index l.nodes) ≡ with_nodes NOBODY l.nodes
