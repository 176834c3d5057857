use Rattle.std.proofs.Common.{ap}
use Rattle.rb_check.proofs.ShownLaws.{goes_nowhere_at, goes_shown}
use Rattle.rb_check.proofs.report.Report.show.Goals as goal

pub returns-then-not-is_open-clause-shown : goal.returns-then-not-is_open-clause-shown
returns-then-not-is_open-clause-shown g c = goes_nowhere_at _ _ _ _ _ c.is_open.result c.is_open.ensures.state (ap g.W.Sink.held c.is_open.ensures.output) c.is_open.ensures.value c.if-not-is_open.true

pub returns-clause-shown : goal.returns-clause-shown
returns-clause-shown g c =
    goes_shown _ _ _ _ _ _ _ _ c.put-written.result c.is_open.result c.is_open.ensures.state (ap g.W.Sink.held c.is_open.ensures.output) c.is_open.ensures.value c.if-not-is_open.false
    c.put-written.ensures.wrote c.wrote.ensures.shown
