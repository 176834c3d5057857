use Rattle.std.proofs.Common.{◌∙◌, ℕ, ◌+◌, drop, ap, arith}
use Rattle.rb_lsp.specs.Tables.{feed_start}
use Rattle.rb_editor.proofs.StartLaws.{start_end, start_here, start_less, start_same}
use Rattle.rb_editor.proofs.actions.above.line_start.Goals as goal
use Rattle.rb_editor.proofs.actions.above.line_start.Goals.{then-b-eq10, else-b-eq10}

pub loop-at-preserved : goal.loop-at-preserved
loop-at-preserved c =
    elim c.if-b-eq10.branch [
      | then-b-eq10 w ↦ record { start = ap (λ (n : ℕ). c.loop-at.at + 1 + feed_start n (drop (c.loop-at.at + 1) c.args.text.now)) w.left-is ∙ start_less c.loop-at.left c.loop-at.at c.args.text.now _ c.if-left-eq0.false c.loop-at-test.true w.if-b-eq10.true c.loop-at.invariant.start; within = omega (arith, c.loop-at-test.true) }
      | else-b-eq10 w ↦ record { start = ap (λ (n : ℕ). c.loop-at.at + 1 + feed_start n (drop (c.loop-at.at + 1) c.args.text.now)) w.left-is ∙ start_same c.loop-at.left c.loop-at.at c.args.text.now _ c.if-left-eq0.false c.loop-at-test.true w.if-b-eq10.false c.loop-at.invariant.start; within = omega (arith, c.loop-at-test.true) }
    ]

pub returns-then-left-eq0-clause-start : goal.returns-then-left-eq0-clause-start
returns-then-left-eq0-clause-start c = start_here c.loop-at.left c.loop-at.at c.args.text.now _ c.if-left-eq0.true c.loop-at.invariant.start

pub returns-clause-start : goal.returns-clause-start
returns-clause-start c = start_end c.loop-at.left c.loop-at.at c.args.text.now _ c.loop-at-test.false c.loop-at.invariant.within c.loop-at.invariant.start
