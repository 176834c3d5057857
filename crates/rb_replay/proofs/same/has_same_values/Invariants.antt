-- The values so far are the same.
use Rattle.std.proofs.Common.{◌≡◌, ℕ, ◌<◌}
use Rattle.rb_script.specs.Directive.{plain_argument, plain_value}
use Rattle.rb_script.specs.Tokens.{plain}
use Rattle.rb_replay.proofs.same.has_same_values.Given as goal

abbrev pub invariant-loop-j : goal.invariant-loop-j
invariant-loop-j l = (k : ℕ) → k < l.j → plain_value (plain_argument (plain l.a) l.i) k ≡ plain_value (plain_argument (plain l.b) l.i) k
