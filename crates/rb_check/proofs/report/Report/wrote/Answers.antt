use Rattle.std.proofs.Common.{◌∙◌, ap, sym}
use Rattle.rb_check.proofs.ShownLaws.{goes_failed, goes_whole, written_front, written_whole}
use Rattle.rb_check.proofs.report.Report.wrote.Goals as goal

pub returns-then-is_ok-2-clause-shown : goal.returns-then-is_ok-2-clause-shown
returns-then-is_ok-2-clause-shown g c = λ before text is_open put. goes_whole _ is_open (written_whole c.args.written _ _ text (sym c.is_ok.ensures.value ∙ c.if-is_ok.true) put) c.flush-handed_on.ensures.held

pub returns-clause-shown : goal.returns-clause-shown
returns-clause-shown g c = λ before text is_open put.
    goes_failed is_open (written_front c.args.written put) c.flush-handed_on.ensures.held (c.lose_output.ensures.state is_open) (ap g.W.Sink.held c.lose_output.ensures.output)
