-- What is left says what the arguments end in.
use Rattle.std.proofs.Common.{◌≡◌, ◌-◌}
use Rattle.rb_script.specs.declared.limits.TheConstants.{MAX_ARGUMENTS}
use Rattle.rb_editor.specs.Unfinished.{in_arguments}
use Rattle.rb_editor.proofs.offers.unfinished.in_arguments.Given as goal

abbrev pub invariant-loop : goal.invariant-loop
invariant-loop l = in_arguments (MAX_ARGUMENTS - l.counter) l.left ≡ in_arguments MAX_ARGUMENTS l.bytes
