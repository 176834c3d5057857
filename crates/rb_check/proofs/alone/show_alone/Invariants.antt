-- The report shows the directives so far.
use Rattle.std.proofs.Common.{take}
use Rattle.rb_check.specs.ScriptTexts.{AreShown, alone_text}
use Rattle.rb_check.specs.Subjects.{plain_of}
use Rattle.rb_check.proofs.alone.show_alone.Given as goal

abbrev pub invariant-loop-i : goal.invariant-loop-i
invariant-loop-i g l =
    let held = g.W.Sink.held in
    AreShown (alone_text (plain_of l.subject)) l.subject.layout.now.heads.items (take l.i l.lines) l.fn.report.state l.report.state (held l.fn.report.output) (held l.report.output)
