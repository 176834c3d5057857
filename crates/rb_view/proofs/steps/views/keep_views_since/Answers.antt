use Rattle.std.proofs.Common.{ℕ, List}
use Rattle.std.proofs.lemmas.List.{map-append}
use Rattle.rb_tracker.specs.Progresses.{PlainProgress}
use Rattle.rb_view.specs.Kept.{texts_of}
use Rattle.rb_view.specs.NewRows.{new_row, new_rows_among}
use Rattle.rb_view.specs.Rows.{next_text}
use Rattle.rb_view.specs.States.{view_row, view_rows}
use Rattle.rb_view.proofs.KeptLaws.{one_more}
use Rattle.rb_view.proofs.steps.views.keep_views_since.Goals as goal

pub loop-i-preserved : goal.loop-i-preserved
loop-i-preserved c =
    let olds = texts_of (view_rows c.args.old_id c.args.old.now.views) in
    one_more (λ (vs : List (ℕ × PlainProgress)). texts_of (new_rows_among olds (view_rows c.args.id vs))) c.args.new.now.views c.loop-i.i _ _ c.loop-i.texts c.keep_new_view.new.texts _
    (map-append next_text (new_row olds (view_row c.args.id (c.view-member.result.0, c.view-member.result.1.now))) _) c.view-member.ensures c.in_ok-keep_new_view.ensures c.loop-i.invariant
