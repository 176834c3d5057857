use Rattle.std.proofs.Common.{◌≡◌, ◌++◌, ◌∷◌, [], sym, ap, ◌∙◌, arith}
use Rattle.rb_script.specs.Lines.{without_returns}
use Rattle.rb_script.proofs.LineLaws.{without_returns_kept, without_returns_dropped, without_returns_nil}
use Rattle.rb_script.proofs.lines.without_returns.Goals as goal

pub loop-last-preserved : goal.loop-last-preserved
loop-last-preserved c =
    let parts : c.loop-last.front.now ≡ c.in-Some.shorter.now ++ c.in-Some.last.now ∷ [] = c.in-Some.ensures.cases.0 in
    record {
      same = sym (without_returns_dropped c.in-Some.shorter.now c.in-Some.last.now c.if-last-ne13.false) ∙ ap without_returns (sym parts) ∙ c.loop-last.invariant.same;
      shorter = omega (arith, c.in-Some.ensures.cases.1, c.loop-last.invariant.shorter);
    }

pub returns-then-last-ne13-clause-value : goal.returns-then-last-ne13-clause-value
returns-then-last-ne13-clause-value c =
    let parts : c.loop-last.front.now ≡ c.in-Some.shorter.now ++ c.in-Some.last.now ∷ [] = c.in-Some.ensures.cases.0 in
    parts ∙ sym (without_returns_kept c.in-Some.shorter.now c.in-Some.last.now c.if-last-ne13.true) ∙ ap without_returns (sym parts) ∙ c.loop-last.invariant.same

pub returns-in_default-clause-value : goal.returns-in_default-clause-value
returns-in_default-clause-value c = without_returns_nil c.loop-last.front.now c.in_default.ensures.cases ∙ c.loop-last.invariant.same
