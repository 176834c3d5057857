use Rattle.std.proofs.Common.{arith}
use Rattle.rb_tracker.proofs.WindowLaws.{freed_stays}
use Rattle.rb_tracker.proofs.progress.Progress.free_through.Goals as goal

pub invariant_of-self : goal.invariant_of-self
invariant_of-self c =
    let p = c.self.inside in
    rw c.free_through.ensures
    (freed_stays p.state p.matched p.next p.matched p.next c.args.index p.window c.self.invariant c.self.invariant.matched_fits c.self.invariant.next_fits (omega arith))
