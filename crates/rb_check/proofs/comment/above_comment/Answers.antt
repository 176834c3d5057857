use Rattle.std.proofs.Common.{◌≡◌, ◌∙◌, ℕ, suc, ◌-◌, ap, sym, arith}
use Rattle.rb_check.specs.Reviews.{above_comment}
use Rattle.rb_check.proofs.CommentLaws.{comment-next, comment-ends}
use Rattle.rb_check.proofs.comment.above_comment.Goals as goal

pub returns-then-not-is_comment-clause-same : goal.returns-then-not-is_comment-clause-same
returns-then-not-is_comment-clause-same c =
    let n : ℕ = c.loop-above.above - 1 in
    let on : suc n ≡ c.loop-above.above = omega (arith, c.loop-above-test.true) in
    sym on ∙ comment-ends c.args.text.now n c.line.result.now c.line.ensures (sym c.is_comment.ensures ∙ c.if-not-is_comment.true) ∙ ap (λ (k : ℕ). above_comment c.args.text.now k) on ∙ c.loop-above.invariant.same

pub loop-above-preserved : goal.loop-above-preserved
loop-above-preserved c =
    let n : ℕ = c.loop-above.above - 1 in
    let on : suc n ≡ c.loop-above.above = omega (arith, c.loop-above-test.true) in
    record {
      same = comment-next c.args.text.now n c.line.result.now c.line.ensures (sym c.is_comment.ensures ∙ c.if-not-is_comment.false) ∙ ap (λ (k : ℕ). above_comment c.args.text.now k) on ∙ c.loop-above.invariant.same;
      within = omega (arith, c.loop-above.invariant.within);
    }
