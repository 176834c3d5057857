use Rattle.std.proofs.Common.{length, ap, ◌∙◌, arith}
use Rattle.rb_script.proofs.ShortLaws.{lines_few}
use Rattle.rb_script.proofs.reading.short_lines.Goals as goal

pub returns-clause-few : goal.returns-clause-few
returns-clause-few c = omega (arith, ap length (c.in_ok-new.ensures ∙ c.in_ok-of.ensures), lines_few c.args.bytes.now)
