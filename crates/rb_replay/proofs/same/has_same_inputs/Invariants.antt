-- The input lines so far are the same.
use Rattle.std.proofs.Common.{◌≡◌, ℕ, ◌<◌, [], get_or}
use Rattle.rb_replay.proofs.same.has_same_inputs.Given as goal

abbrev pub invariant-loop-i : goal.invariant-loop-i
invariant-loop-i l = (k : ℕ) → k < l.i → get_or l.a.inputs k [] ≡ get_or l.b.inputs k []
