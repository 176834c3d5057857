-- The report says the warnings so far.
use Rattle.std.proofs.Common.{drop}
use Rattle.rb_check.specs.Shown.{warnings_text}
use Rattle.rb_check.proofs.ShownLaws.{Gone}
use Rattle.rb_check.proofs.report.Report.warn.Given as goal

abbrev pub invariant-loop-i : goal.invariant-loop-i
invariant-loop-i g l =
    let held = g.W.Sink.held in
    let text = warnings_text l.fn.self.state.form l.path in
    Gone l.fn.self.state l.self.state (held l.fn.self.output) (held l.self.output) (text l.warnings) (text (drop l.i l.warnings))
