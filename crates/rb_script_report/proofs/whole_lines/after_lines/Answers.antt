use Rattle.std.proofs.Common.{◌∙◌, ◌-◌, ℕ, List, ap, arith}
use Rattle.rb_script_report.specs.WholeLines.{after_lines}
use Rattle.rb_script_report.proofs.WholeLaws.{after_more, after_no_more}
use Rattle.rb_script_report.proofs.whole_lines.after_lines.Goals as goal

pub loop-left-preserved : goal.loop-left-preserved
loop-left-preserved c = record {
  same = ap (λ (l : List ℕ). after_lines (c.loop-left.left - 1) l) c.after_line-rest.ensures.value ∙ after_more c.loop-left.left c.loop-left.rest.now (omega (arith, c.loop-left-test.true)) ∙ c.loop-left.invariant.same;
  shorter = omega (arith, c.after_line-rest.ensures.shorter, c.loop-left.invariant.shorter);
}

pub returns-clause-value : goal.returns-clause-value
returns-clause-value c = after_no_more c.loop-left.left c.loop-left.rest.now (omega (arith, c.loop-left-test.false)) ∙ c.loop-left.invariant.same
