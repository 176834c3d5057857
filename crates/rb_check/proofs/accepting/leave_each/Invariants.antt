-- The report says what is left so far.
use Rattle.std.proofs.Common.{drop}
use Rattle.rb_check.specs.Shown.{left_text}
use Rattle.rb_check.proofs.ShownLaws.{Gone}
use Rattle.rb_check.proofs.accepting.leave_each.Given as goal

abbrev pub invariant-loop-i : goal.invariant-loop-i
invariant-loop-i g l =
    let held = g.W.Sink.held in
    let text = left_text l.fn.report.state.form l.path l.picked in
    Gone l.fn.report.state l.report.state (held l.fn.report.output) (held l.report.output) (text l.left) (text (drop l.i l.left))
