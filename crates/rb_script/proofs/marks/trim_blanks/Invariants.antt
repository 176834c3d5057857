use Rattle.std.proofs.Common.{◌≡◌, length}
use Rattle.rb_script.specs.Marks.{trim_blanks}
use Rattle.rb_script.proofs.marks.trim_blanks.Given as goal

abbrev pub invariant-loop-first : goal.invariant-loop-first
invariant-loop-first l = trim_blanks l.rest ≡ trim_blanks l.line

abbrev pub decreases-loop-first : goal.decreases-loop-first
decreases-loop-first l = length l.rest
