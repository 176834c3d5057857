use Rattle.std.proofs.Common.{◌∙◌, ◌≤◌, arith}
use Rattle.rb_replay.specs.Points.{last_up_to}
use Rattle.rb_replay.proofs.PointLaws.{last_up_to-le}
use Rattle.rb_view.proofs.LookLaws.{same_state}
use Rattle.rb_view.proofs.look.counting.machine_over.Goals as goal

pub run_between-requires-clause-here : goal.run_between-requires-clause-here
run_between-requires-clause-here g c =
    let front = c.common_front-front.result in
    let le : last_up_to front c.args.session.now.points ≤ front = last_up_to-le front c.args.session.now.points in
    c.in_ok-from.ensures.machine
    ∙ same_state c.args.session.now.script c.args.script.now c.in_ok-from.from front (omega (arith, c.in_ok-from.ensures.point, le)) c.common_front-front.ensures.same

pub run_between-requires-clause-forward : goal.run_between-requires-clause-forward
run_between-requires-clause-forward g c =
    let front = c.common_front-front.result in
    let le : last_up_to front c.args.session.now.points ≤ front = last_up_to-le front c.args.session.now.points in
    omega (arith, c.in_ok-from.ensures.point, le, c.common_front-front.ensures.within, c.len.ensures)
