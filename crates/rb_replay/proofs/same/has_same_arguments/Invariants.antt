-- The arguments so far are the same.
use Rattle.std.proofs.Common.{◌≡◌, ℕ, ◌<◌}
use Rattle.rb_script.specs.Directive.{plain_argument}
use Rattle.rb_script.specs.Tokens.{plain}
use Rattle.rb_replay.proofs.same.has_same_arguments.Given as goal

abbrev pub invariant-loop-i : goal.invariant-loop-i
invariant-loop-i l = (k : ℕ) → k < l.i → plain_argument (plain l.a) k ≡ plain_argument (plain l.b) k
