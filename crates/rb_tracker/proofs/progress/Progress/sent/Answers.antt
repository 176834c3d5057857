use Rattle.std.proofs.Common.{sym, ◌∙◌}
use Rattle.rb_tracker.proofs.WindowLaws.{in_flight_below, sent_stays}
use Rattle.rb_tracker.proofs.progress.Progress.sent.Goals as goal

pub push-requires-clause-above : goal.push-requires-clause-above
push-requires-clause-above c =
    let p = c.self.inside in
    in_flight_below p.state p.matched p.next c.args.last p.window c.self.invariant c.in-Replicate.is c.if-self-last.true

pub invariant_of-self-then-not-is_full : goal.invariant_of-self-then-not-is_full
invariant_of-self-then-not-is_full c =
    let p = c.self.inside in
    rw c.push.ensures
    (sent_stays p.state p.matched p.next c.args.last p.window c.self.invariant (sym c.is_full.ensures.full ∙ c.if-not-is_full.true) c.in-Replicate.is c.if-self-last.true c.requires)
