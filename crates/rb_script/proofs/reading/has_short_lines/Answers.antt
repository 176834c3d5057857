use Rattle.std.proofs.Common.{arith}
use Rattle.rb_script.proofs.ShortLaws.{short_by_length, short_by_feed, short_lines}
use Rattle.rb_script.proofs.reading.has_short_lines.Goals as goal

pub loop-rest-preserved : goal.loop-rest-preserved
loop-rest-preserved c = λ short. c.loop-rest.invariant (short_by_feed c.loop-rest.rest.now c.in-Some.end (omega (arith, c.in-Some.ensures.0)) c.in-Some.ensures.0 c.in-Some.ensures.1 short)

pub returns : goal.returns
returns c = λ yes n. short_lines c.args.bytes.now n (c.loop-rest.invariant (short_by_length c.loop-rest.rest.now (omega arith)))
