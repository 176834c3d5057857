use Rattle.std.proofs.Common.{◌∙◌, ℕ, ◌+◌, drop, ap, sym, arith}
use Rattle.rb_editor.specs.Messages.{event_line}
use Rattle.rb_editor.proofs.MessageLaws.{event_below, event_here, event_later, event_nowhere}
use Rattle.rb_editor.proofs.actions.message_lines.event_line.Goals as goal
use Rattle.rb_editor.proofs.actions.message_lines.event_line.Goals.{then-has_event+else-left-eq0, else-has_event}

pub returns-then-left-eq0-clause-value : goal.returns-then-left-eq0-clause-value
returns-then-left-eq0-clause-value c =
    sym (event_here c.args.event c.args.message.now c.loop-i.left c.args.lines.now c.loop-i.i c.line.result.now c.line.ensures (sym c.has_event.ensures ∙ c.if-has_event.true) (omega (arith, c.if-left-eq0.true)))
    ∙ c.loop-i.invariant

pub loop-i-preserved : goal.loop-i-preserved
loop-i-preserved c =
    let event = c.args.event in
    let m = c.args.message.now in
    let ls = c.args.lines.now in
    let i = c.loop-i.i in
    let line = c.line.result.now in
    let with_left = λ (n : ℕ). event_line event m n (i + 1) (drop (i + 1) ls) in
    elim c.if-has_event.branch [
      | then-has_event+else-left-eq0 w ↦ ap with_left w.left-is
          ∙ sym (event_later event m c.loop-i.left ls i line c.line.ensures (sym c.has_event.ensures ∙ w.if-has_event.true) (omega (arith, w.if-left-eq0.false)))
          ∙ c.loop-i.invariant
      | else-has_event w ↦ ap with_left w.left-is
          ∙ sym (event_below event m c.loop-i.left ls i line c.line.ensures (sym c.has_event.ensures ∙ w.if-has_event.false))
          ∙ c.loop-i.invariant
    ]

pub returns-clause-value : goal.returns-clause-value
returns-clause-value c =
    sym (event_nowhere c.args.event c.args.message.now c.loop-i.left c.loop-i.i c.args.lines.now c.loop-i.i (omega (arith, c.loop-i-test.false, c.len-i-end.ensures)))
    ∙ c.loop-i.invariant
