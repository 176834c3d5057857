use Rattle.std.proofs.Common.{arith}
use Rattle.rb_tracker.proofs.WindowLaws.{freed_stays}
use Rattle.rb_tracker.proofs.progress.Progress.acked.Goals as goal

pub invariant_of-self-in-Replicate : goal.invariant_of-self-in-Replicate
invariant_of-self-in-Replicate c =
    let p = c.self.inside in
    rw c.free_through.ensures
    (freed_stays p.state p.matched p.next c.args.index c.max-self-inside.result c.args.index p.window c.self.invariant c.requires (omega (arith, c.max-self-inside.ensures)) (omega (arith, c.max-self-inside.ensures)))
