-- The rows so far, and those of the views that are left.
use Rattle.std.proofs.Common.{◌≡◌, ◌++◌, drop}
use Rattle.rb_view.specs.Kept.{texts_of}
use Rattle.rb_view.specs.NewRows.{new_rows_among}
use Rattle.rb_view.specs.States.{view_rows}
use Rattle.rb_view.proofs.steps.views.keep_views_since.Given as goal

abbrev pub invariant-loop-i : goal.invariant-loop-i
invariant-loop-i l =
    l.texts ++ texts_of (new_rows_among (texts_of (view_rows l.old_id l.old.views)) (view_rows l.id (drop l.i l.new.views)))
    ≡ l.initial.texts ++ texts_of (new_rows_among (texts_of (view_rows l.old_id l.old.views)) (view_rows l.id l.new.views))
