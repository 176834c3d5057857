use Rattle.std.proofs.Common.{◌∙◌, ◌≤◌, arith, ap, rules}
use Rattle.rb_script.specs.Directive.{PlainDirective}
use Rattle.rb_machine.specs.Outcome.{outcome}
use Rattle.rb_replay.specs.Points.{last_up_to}
use Rattle.rb_replay.proofs.PointLaws.{last_up_to-le}
use Rattle.rb_view.proofs.LookLaws.{machine_next, place_there}
use Rattle.rb_view.proofs.look.looking.machine_in_session.Goals as goal

pub loop-i-init : goal.loop-i-init
loop-i-init g c =
    let le : last_up_to c.args.place c.args.session.now.points ≤ c.args.place = last_up_to-le c.args.place c.args.session.now.points in
    record { here = c.in_ok-from.ensures.machine; counted = omega arith; past = omega (arith, c.in_ok-from.ensures.point); within = omega (arith, c.in_ok-from.ensures.point, le) }

pub loop-i-preserved : goal.loop-i-preserved
loop-i-preserved g c = record {
  here = machine_next c.args.session.now.script c.loop-i.i c.unwrap-block.result.now (g.M.Machine.meaning c.loop-i.machine) (g.M.Machine.meaning c.in_ok-next.next)
      (place_there c.args.session.now.script.blocks c.loop-i.i c.unwrap-block.result.now (search rules)) c.loop-i.invariant.here
      (c.in_ok-next.ensures.cluster ∙ ap (λ (d : PlainDirective). (outcome (g.M.Machine.meaning c.loop-i.machine) d).cluster) c.directive.ensures.whole);
  counted = omega (arith, c.loop-i.invariant.counted, c.loop-i.invariant.past, c.run.ensures.counted);
  past = omega (arith, c.loop-i.invariant.past);
  within = omega (arith, c.loop-i-test.true);
}
