use Rattle.std.proofs.Common.{◌∙◌, ℕ, ◌+◌, drop, refl, ap, sym, arith}
use Rattle.std.specs.Prelude.{slice_range}
use Rattle.rb_editor.specs.Corrections.{column_in, word_column}
use Rattle.rb_editor.proofs.CorrectionLaws.{column_more, column_passed}
use Rattle.rb_editor.proofs.actions.correction.word_column.Goals as goal
use Rattle.rb_editor.proofs.actions.correction.word_column.Goals.{then-ends_word+else-eq, else-ends_word}

pub loop-i-init : goal.loop-i-init
unfolding word_column
loop-i-init c = record {
  from = omega arith;
  same = refl;
}

pub loop-i-preserved : goal.loop-i-preserved
loop-i-preserved c =
    let line = c.args.line.now in
    let word = c.args.word.now in
    let i = c.loop-i.i in
    elim c.if-ends_word.branch [
      | then-ends_word+else-eq w ↦ record {
        from = omega (arith, w.from-is);
        same = ap (λ (n : ℕ). column_in word n (slice_range line n (i + 1)) (drop (i + 1) line)) w.from-is
            ∙ column_passed word line c.loop-i.from i w.eq.result _ c.loop-i.invariant.from c.loop-i-test.true (sym c.ends_word.ensures ∙ w.if-ends_word.true) w.eq.ensures w.if-eq.false c.loop-i.invariant.same;
      }
      | else-ends_word w ↦ record {
        from = omega (arith, w.from-is, c.loop-i.invariant.from);
        same = ap (λ (n : ℕ). column_in word n (slice_range line n (i + 1)) (drop (i + 1) line)) w.from-is
            ∙ column_more word line c.loop-i.from i _ c.loop-i.invariant.from c.loop-i-test.true (sym c.ends_word.ensures ∙ w.if-ends_word.false) c.loop-i.invariant.same;
      }
    ]
