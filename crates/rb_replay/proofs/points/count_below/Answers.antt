use Rattle.std.proofs.Common.{◌≡◌, ◌+◌, ◌-◌, ◌/◌, ◌≤◌, ℕ, get_or, subst, arith}
use Rattle.rb_replay.proofs.PartLaws.{split_rising}
use Rattle.rb_replay.proofs.NextLaws.{below-up-to}
use Rattle.rb_replay.proofs.points.count_below.Goals as goal

pub loop-low-preserved-then-points-middle : goal.loop-low-preserved-then-points-middle
loop-low-preserved-then-points-middle c = record {
  order = omega arith;
  within = omega arith;
  below = λ k low. below-up-to c.args.bound (c.loop-low.low + (c.loop-low.high - c.loop-low.low) / 2) k c.args.points.now c.requires (omega arith) (omega arith) c.if-points-middle.true;
  above = c.loop-low.invariant.above;
}

pub returns-clause-front : goal.returns-clause-front
returns-clause-front c =
    let end : c.loop-low.high ≡ c.loop-low.low = omega arith in
    (split_rising 0 c.args.bound c.loop-low.low c.args.points.now c.requires (omega arith) c.loop-low.invariant.below (λ lt. subst (λ (n : ℕ). c.args.bound ≤ get_or c.args.points.now n 0) end (c.loop-low.invariant.above (omega arith)))).0

pub returns-clause-rest : goal.returns-clause-rest
returns-clause-rest c =
    let end : c.loop-low.high ≡ c.loop-low.low = omega arith in
    (split_rising 0 c.args.bound c.loop-low.low c.args.points.now c.requires (omega arith) c.loop-low.invariant.below (λ lt. subst (λ (n : ℕ). c.args.bound ≤ get_or c.args.points.now n 0) end (c.loop-low.invariant.above (omega arith)))).1
