use Rattle.std.proofs.Common.{◌≤◌, arith}
use Rattle.rb_replay.proofs.ReadyLaws.{start-before}
use Rattle.rb_replay.proofs.points.find_start.Goals as goal

pub returns-clause-start : goal.returns-clause-start
returns-clause-start c =
    let one : 1 ≤ c.count_below.result = grind (arith, c.count_below.ensures.next.above) in
    start-before c.args.front c.count_below.result c.args.points.now c.requires.rising one c.count_below.ensures.next.within c.count_below.ensures.next.below c.count_below.ensures.next.above
