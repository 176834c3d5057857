use Rattle.std.proofs.Common.{arith}
use Rattle.rb_tracker.proofs.ViewLaws.{rank_past, rank_here}
use Rattle.rb_tracker.proofs.tracker.Tracker.rank.Goals as goal

pub returns-then-view-id-clause-rank : goal.returns-then-view-id-clause-rank
returns-then-view-id-clause-rank c =
    let here = rank_here c.args.self.now.views c.loop-at.at c.args.id _ c.view.ensures c.if-view-id.true in
    omega arith

pub loop-at-preserved : goal.loop-at-preserved
loop-at-preserved c =
    let past = rank_past c.args.self.now.views c.loop-at.at c.args.id _ c.view.ensures c.if-view-id.false in
    record { within = omega arith; rest = omega arith }
