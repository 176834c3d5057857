-- The rows so far, and what is left.
use Rattle.std.proofs.Common.{◌≡◌, ◌++◌, drop}
use Rattle.rb_view.specs.Kept.{texts_of}
use Rattle.rb_view.specs.States.{gone_rows}
use Rattle.rb_view.proofs.steps.node.keep_gone.Given as goal

abbrev pub invariant-loop-i : goal.invariant-loop-i
invariant-loop-i l = l.texts ++ texts_of (gone_rows l.id (drop l.i l.old.views) l.new.views) ≡ l.initial.texts ++ texts_of (gone_rows l.id l.old.views l.new.views)
