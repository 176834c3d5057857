use Rattle.std.proofs.Common.{◌≡◌, ◌∙◌, ℕ, suc, ◌-◌, ap, sym, arith}
use Rattle.rb_script_report.specs.Errors.{marked}
use Rattle.rb_script_report.proofs.ShownLaws.{marked-next}
use Rattle.rb_script_report.proofs.errors.says_error.Goals as goal

pub loop-above-preserved : goal.loop-above-preserved
loop-above-preserved c =
    let n : ℕ = c.loop-above.above - 1 in
    let on : suc n ≡ c.loop-above.above = omega (arith, c.loop-above-test.true) in
    let next = marked-next c.args.text.now n c.line-next.result.now c.line-next.ensures (sym c.is_lead.ensures ∙ c.if-not-is_lead.false) (sym c.is_mark.ensures ∙ c.if-is_mark.false) in
    record {
      same = next ∙ ap (λ (k : ℕ). marked c.args.text.now k) on ∙ c.loop-above.invariant.same;
      within = omega (arith, c.loop-above.invariant.within);
    }
