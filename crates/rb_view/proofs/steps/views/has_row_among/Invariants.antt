-- It is none of those so far.
use Rattle.std.proofs.Common.{◌≡◌, drop}
use Rattle.rb_view.specs.Kept.{texts_of}
use Rattle.rb_view.specs.NewRows.{has_text}
use Rattle.rb_view.specs.Rows.{next_text}
use Rattle.rb_view.specs.States.{view_row, view_rows}
use Rattle.rb_view.proofs.steps.views.has_row_among.Given as goal

abbrev pub invariant-loop-i : goal.invariant-loop-i
invariant-loop-i l =
    has_text (texts_of (view_rows l.id l.tracker.views)) (next_text (view_row l.own.id (l.own.member, l.own.view.now)))
    ≡ has_text (texts_of (view_rows l.id (drop l.i l.tracker.views))) (next_text (view_row l.own.id (l.own.member, l.own.view.now)))
