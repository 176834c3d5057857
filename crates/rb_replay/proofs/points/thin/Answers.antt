use Rattle.std.proofs.Common.{◌+◌, ◌-◌, ◌≤◌, arith, ◌∙◌, sym, get_or, List, ℕ}
use Rattle.std.proofs.lemmas.Grind.{common_steps}
use Rattle.rb_replay.proofs.PartLaws.{thinned_end, thinned_drop, kept-remove}
use Rattle.rb_replay.proofs.points.thin.Goals as goal

pub returns-clause-points : goal.returns-clause-points
returns-clause-points g c = sym (thinned_end c.args.checkpoint_interval c.loop-i.i c.loop-i.points.items (omega (arith, c.loop-i.points.ok.0))) ∙ c.loop-i.invariant.thinned

pub loop-i-preserved-then-saturating_sub-checkpoint_interval : goal.loop-i-preserved-then-saturating_sub-checkpoint_interval
loop-i-preserved-then-saturating_sub-checkpoint_interval g c =
    let ps : List ℕ = c.loop-i.points.items in
    let near : get_or c.loop-i.points.items (c.loop-i.i + 1) 0 - get_or c.loop-i.points.items (c.loop-i.i - 1) 0 ≤ c.args.checkpoint_interval = grind (arith, common_steps) in
    record {
      from_one = omega arith;
      within = omega arith;
      paired = omega arith;
      thinned = rw c.remove.ensures.items (sym (thinned_drop c.args.checkpoint_interval c.loop-i.i c.loop-i.points.items c.loop-i.invariant.from_one (omega (arith, c.loop-i.points.ok.0)) near) ∙ c.loop-i.invariant.thinned);
      kept = λ f h same. rw (c.remove.ensures.items, c.remove-then-saturating_sub-checkpoint_interval.ensures.items) (kept-remove f h c.loop-i.kept.items c.loop-i.points.items c.loop-i.i (c.loop-i.invariant.kept f h same));
    }
