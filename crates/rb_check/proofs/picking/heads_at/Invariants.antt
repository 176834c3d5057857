-- The heads so far are picked.
use Rattle.std.proofs.Common.{take}
use Rattle.rb_check.specs.ScriptTexts.{ArePicked, matched_text}
use Rattle.rb_check.specs.Subjects.{plain_of}
use Rattle.rb_check.proofs.picking.heads_at.Given as goal

abbrev pub invariant-loop-i : goal.invariant-loop-i
invariant-loop-i g l =
    let held = g.W.Sink.held in
    ArePicked (matched_text l.fn.report.state.form (plain_of l.subject)) l.subject.layout.now.heads.items (take l.i l.lines) l.picked.items l.fn.report.state l.report.state (held l.fn.report.output) (held l.report.output)
