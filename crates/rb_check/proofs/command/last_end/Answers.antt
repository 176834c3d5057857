use Rattle.std.proofs.Common.{◌≡◌, ◌∙◌, ℕ, suc, ◌-◌, ap, sym, arith}
use Rattle.rb_check.specs.Commands.{last_end}
use Rattle.rb_check.proofs.FormatLaws.{end-found, end-next}
use Rattle.rb_check.proofs.command.last_end.Goals as goal

pub returns-then-ends_line-clause-same : goal.returns-then-ends_line-clause-same
returns-then-ends_line-clause-same c =
    let n : ℕ = c.loop-kept.kept - 1 in
    let on : suc n ≡ c.loop-kept.kept = omega (arith, c.loop-kept-test.true) in
    sym on ∙ end-found c.args.diff.now n (sym c.ends_line.ensures ∙ c.if-ends_line.true) ∙ ap (λ (k : ℕ). last_end c.args.diff.now k) on ∙ c.loop-kept.invariant.same

pub loop-kept-preserved : goal.loop-kept-preserved
loop-kept-preserved c =
    let n : ℕ = c.loop-kept.kept - 1 in
    let on : suc n ≡ c.loop-kept.kept = omega (arith, c.loop-kept-test.true) in
    record {
      same = end-next c.args.diff.now n (sym c.ends_line.ensures ∙ c.if-ends_line.false) ∙ ap (λ (k : ℕ). last_end c.args.diff.now k) on ∙ c.loop-kept.invariant.same;
      within = omega (arith, c.loop-kept.invariant.within);
    }
