-- The types so far, and those that are left.
use Rattle.std.proofs.Common.{◌≡◌, drop, Some}
use Rattle.rb_directive.specs.Reading.{argument_words}
use Rattle.rb_directive.specs.TypeSets.{with_types, no_types}
use Rattle.rb_directive.proofs.argument_ref.ArgumentRef.types.Given as goal

abbrev pub invariant-loop-at : goal.invariant-loop-at
invariant-loop-at l = with_types (argument_words l.self) (Some no_types) ≡ with_types (drop l.at (argument_words l.self)) (Some l.types)
