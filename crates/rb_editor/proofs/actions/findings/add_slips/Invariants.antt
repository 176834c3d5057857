-- The warnings so far follow the others.
use Rattle.std.proofs.Common.{◌≡◌, ◌++◌, map, take}
use Rattle.rb_editor.specs.Findings.{slip}
use Rattle.rb_editor.proofs.actions.findings.add_slips.Given as goal

abbrev pub invariant-loop-warning : goal.invariant-loop-warning
invariant-loop-warning l = l.list.items ≡ l.initial.list.items ++ map slip (take l.warning-index l.slips)
