use Rattle.std.proofs.Common.{inr}
use Rattle.rb_program.proofs.chart.chart.Goals as goal

pub returns : goal.returns
returns g c =
    inr (record { from = c.in_ok-first.first; until = c.in_ok-last.last }, c.in_ok-first.ensures.asked, c.in_ok-last.ensures.asked, (c.write_document-drawn.result, c.write_document-drawn.ensures, c.unless_refused.ensures))
