use Rattle.std.proofs.Common.{◌≡◌, drop}
use Rattle.rb_node.specs.Compacting.{content_after}
use Rattle.rb_node.proofs.compacting.append_payloads.Given as goal

abbrev pub invariant-loop-entry : goal.invariant-loop-entry
invariant-loop-entry l = content_after l.initial.content l.entries ≡ content_after l.content (drop l.entry-index l.entries)
