use Rattle.std.proofs.Common.{arith, ap, ◌∙◌, rules}
use Rattle.rb_script.specs.Directive.{PlainDirective}
use Rattle.rb_machine.specs.Outcome.{outcome}
use Rattle.rb_view.proofs.LookLaws.{machine_next}
use Rattle.rb_view.proofs.look.looking.run_between.Goals as goal

pub loop-i-preserved : goal.loop-i-preserved
loop-i-preserved g c = record {
  here = machine_next c.args.script.now c.loop-i.i c.unwrap-block.result.now (g.M.Machine.meaning c.loop-i.machine) (g.M.Machine.meaning c.in_ok-next.next) (search rules) c.loop-i.invariant.here
      (c.in_ok-next.ensures.cluster ∙ ap (λ (d : PlainDirective). (outcome (g.M.Machine.meaning c.loop-i.machine) d).cluster) c.directive.ensures.whole);
  counted = omega (arith, c.loop-i.invariant.counted, c.run.ensures.counted);
  within = omega (arith, c.loop-i-test.true);
}
