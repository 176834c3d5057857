use Rattle.std.proofs.Common.{◌≡◌, drop}
use Rattle.rb_node.specs.Compacting.{config_after}
use Rattle.rb_node.proofs.compacting.config_after.Given as goal

abbrev pub invariant-loop-entry : goal.invariant-loop-entry
invariant-loop-entry l = config_after l.first l.entries ≡ config_after l.config (drop l.entry-index l.entries)
