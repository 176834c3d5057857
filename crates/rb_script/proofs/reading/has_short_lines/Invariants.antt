use Rattle.std.proofs.Common.{length}
use Rattle.rb_script.proofs.ShortLaws.{AreShort}
use Rattle.rb_script.proofs.reading.has_short_lines.Given as goal

abbrev pub invariant-loop-rest : goal.invariant-loop-rest
invariant-loop-rest l = AreShort l.rest → AreShort l.bytes

abbrev pub decreases-loop-rest : goal.decreases-loop-rest
decreases-loop-rest l = length l.rest
