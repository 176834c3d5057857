-- All bytes so far, from this end, are the same.
use Rattle.std.proofs.Common.{◌≡◌, ◌+◌, drop, eqb}
use Rattle.std.specs.List.{common_prefix_len}
use Rattle.rb_report.specs.Ends.{read_from}
use Rattle.rb_report.specs.Highlights.{same_len}
use Rattle.rb_report.proofs.check.highlight.same_len.Given as goal

abbrev pub invariant-loop-i : goal.invariant-loop-i
invariant-loop-i l = l.i + common_prefix_len eqb (drop l.i (read_from l.end l.line)) (drop l.i (read_from l.end l.other)) ≡ same_len l.end l.line l.other
