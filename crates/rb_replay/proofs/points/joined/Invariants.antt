use Rattle.std.proofs.Common.{◌≡◌, ◌+◌, ◌-◌, ◌++◌, map, take, ℕ}
use Rattle.rb_replay.proofs.points.joined.Given as goal

abbrev pub invariant-loop-p : goal.invariant-loop-p
invariant-loop-p l = l.points.items ≡ (l.front ++ l.fresh) ++ map (λ (p : ℕ). p - l.splice.old_rest + l.splice.new_rest) (take l.p-index l.rest)
