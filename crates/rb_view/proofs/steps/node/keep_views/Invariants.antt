-- The rows so far, and those of the views that are left.
use Rattle.std.proofs.Common.{◌≡◌, ◌++◌, drop}
use Rattle.rb_view.specs.Kept.{texts_of}
use Rattle.rb_view.specs.States.{view_rows}
use Rattle.rb_view.proofs.steps.node.keep_views.Given as goal

abbrev pub invariant-loop-i : goal.invariant-loop-i
invariant-loop-i l = l.texts ++ texts_of (view_rows l.id (drop l.i l.tracker.views)) ≡ l.initial.texts ++ texts_of (view_rows l.id l.tracker.views)
