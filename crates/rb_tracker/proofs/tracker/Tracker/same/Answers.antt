use Rattle.std.proofs.Common.{◌≡◌}
use Rattle.rb_tracker.proofs.WindowLaws.{take_more_some}
use Rattle.rb_tracker.proofs.tracker.Tracker.same.Goals as goal

pub loop-i-preserved : goal.loop-i-preserved
loop-i-preserved c =
    let a = take_more_some c.args.self.now.views c.loop-i.i _ c.view-id.ensures in
    let b = take_more_some c.args.other.now.views c.loop-i.i _ c.view-other_id.ensures in
    let views : c.view-id.result.1.now ≡ c.view-other_id.result.1.now = c.same-else-id-other_id.ensures.0 c.if-not-same-2.false in
    cc
