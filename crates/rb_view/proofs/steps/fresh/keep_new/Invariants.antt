-- The texts so far, and what is left.
use Rattle.std.proofs.Common.{◌≡◌, ◌++◌, drop}
use Rattle.rb_view.specs.NewRows.{new_texts}
use Rattle.rb_view.proofs.steps.fresh.keep_new.Given as goal

abbrev pub invariant-loop-i : goal.invariant-loop-i
invariant-loop-i l = l.texts ++ new_texts l.olds (drop l.i l.news) ≡ l.initial.texts ++ new_texts l.olds l.news
