use Rattle.std.proofs.Common.{◌+◌, ◌-◌, ℕ, drop, arith, sym, ap, ◌∙◌}
use borrow.Author.Tests.{lt-ltb, le-ltb}
use Rattle.rb_lsp.specs.Places.{column}
use Rattle.rb_lsp.proofs.PlaceLaws.{column_past, column_ended, column_full, column_going}
use Rattle.rb_lsp.proofs.document.position.column.Goals as goal

pub returns-then-is_end-clause-value : goal.returns-then-is_end-clause-value
returns-then-is_end-clause-value c = omega (arith, c.loop-at.invariant, column_ended c.args.encoding c.loop-at.left c.loop-at.at c.args.line.now c.loop-at-test.true (sym c.is_end.ensures ∙ c.if-is_end.true))

pub returns-then-left-width-clause-value : goal.returns-then-left-width-clause-value
returns-then-left-width-clause-value c =
    omega (
      arith,
      c.loop-at.invariant,
      column_full c.args.encoding c.loop-at.left c.loop-at.at c.args.line.now c.loop-at-test.true (sym c.is_end.ensures ∙ c.if-is_end.false)
          (lt-ltb _ _ (rw c.units-width.ensures at c.if-left-width.true)),
    )

pub loop-at-preserved : goal.loop-at-preserved
loop-at-preserved c =
    let going = column_going c.args.encoding c.loop-at.left c.loop-at.at c.args.line.now c.loop-at-test.true (sym c.is_end.ensures ∙ c.if-is_end.false)
    (le-ltb _ _ (rw c.units-width.ensures at c.if-left-width.false)) in
    let width = ap (λ (w : ℕ). column c.args.encoding (c.loop-at.left - w) (drop (c.loop-at.at + 1) c.args.line.now)) c.units-width.ensures in
    omega (arith, c.loop-at.invariant, going, width)

pub returns-clause-value : goal.returns-clause-value
returns-clause-value c = omega (arith, c.loop-at.invariant, column_past c.args.encoding c.loop-at.left c.loop-at.at c.args.line.now (omega arith))
