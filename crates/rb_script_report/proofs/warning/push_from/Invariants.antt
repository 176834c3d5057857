-- Those so far, and those of the lines that are left.
use Rattle.std.proofs.Common.{◌≡◌, ◌+◌, ◌++◌}
use Rattle.rb_script_report.specs.declared.part.BlockPart.TheVariants.{Head}
use Rattle.rb_script_report.specs.Doubts.{warnings_from}
use Rattle.rb_script_report.proofs.warning.push_from.Given as goal

abbrev pub invariant-loop-left : goal.invariant-loop-left
invariant-loop-left l = record {
  all : l.found.items ++ warnings_from l.takes l.output l.lines.text.now l.part l.at l.left ≡ l.initial.found.items ++ warnings_from l.takes l.output l.lines.text.now Head l.lines.start l.lines.count;
  place : l.at + l.left ≡ l.lines.start + l.lines.count;
}

abbrev pub decreases-loop-left : goal.decreases-loop-left
decreases-loop-left l = l.left
