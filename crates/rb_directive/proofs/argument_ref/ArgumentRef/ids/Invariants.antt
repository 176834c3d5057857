-- The ids so far, and those that are left.
use Rattle.std.proofs.Common.{◌≡◌, drop, Some}
use Rattle.rb_directive.specs.Reading.{argument_words}
use Rattle.rb_directive.specs.IdLists.{with_ids}
use Rattle.rb_directive.proofs.argument_ref.ArgumentRef.ids.Given as goal

abbrev pub invariant-loop-at : goal.invariant-loop-at
invariant-loop-at l = with_ids (argument_words l.self) (Some l.initial.ids) ≡ with_ids (drop l.at (argument_words l.self)) (Some l.ids)
