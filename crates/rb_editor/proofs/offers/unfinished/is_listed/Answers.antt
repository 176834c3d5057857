use Rattle.std.proofs.Common.{◌∙◌, ℕ, ◌+◌, drop, refl, ap, sym, arith}
use Rattle.std.specs.Prelude.{slice_range}
use Rattle.rb_editor.specs.Unfinished.{has_piece, is_listed}
use Rattle.rb_editor.proofs.PieceLaws.{piece_more, piece_passed}
use Rattle.rb_editor.proofs.offers.unfinished.is_listed.Goals as goal
use Rattle.rb_editor.proofs.offers.unfinished.is_listed.Goals.{then-is_gap+else-eq, else-is_gap}

pub loop-i-init : goal.loop-i-init
unfolding is_listed
loop-i-init c = record {
  from = omega arith;
  same = refl;
}

pub loop-i-preserved : goal.loop-i-preserved
loop-i-preserved c =
    let bytes = c.args.bytes.now in
    let word = c.args.word.now in
    let i = c.loop-i.i in
    elim c.if-is_gap.branch [
      | then-is_gap+else-eq w ↦ record {
        from = omega (arith, w.from-is);
        same = ap (λ (n : ℕ). has_piece word (slice_range bytes n (i + 1)) (drop (i + 1) bytes)) w.from-is
            ∙ piece_passed word bytes c.loop-i.from i w.eq.result _ c.loop-i-test.true (sym c.is_gap.ensures ∙ w.if-is_gap.true) w.eq.ensures w.if-eq.false c.loop-i.invariant.same;
      }
      | else-is_gap w ↦ record {
        from = omega (arith, w.from-is, c.loop-i.invariant.from);
        same = ap (λ (n : ℕ). has_piece word (slice_range bytes n (i + 1)) (drop (i + 1) bytes)) w.from-is
            ∙ piece_more word bytes c.loop-i.from i _ c.loop-i.invariant.from c.loop-i-test.true (sym c.is_gap.ensures ∙ w.if-is_gap.false) c.loop-i.invariant.same;
      }
    ]
