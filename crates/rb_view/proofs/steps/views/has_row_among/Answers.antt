use Rattle.std.proofs.Common.{◌∙◌, ℕ, List, ap, sym, arith}
use Rattle.std.proofs.lemmas.List.{drop_all}
use Rattle.rb_tracker.specs.Progresses.{PlainProgress}
use Rattle.rb_view.specs.Kept.{texts_of}
use Rattle.rb_view.specs.NewRows.{has_text}
use Rattle.rb_view.specs.Rows.{next_text}
use Rattle.rb_view.specs.States.{view_row, view_rows}
use Rattle.rb_view.proofs.SameRowLaws.{view_here, view_not_here}
use Rattle.rb_view.proofs.steps.views.has_row_among.Goals as goal

pub returns-then-has_same_row : goal.returns-then-has_same_row
returns-then-has_same_row c =
    let own = c.args.own in
    sym (c.loop-i.invariant
    ∙ view_here own.id c.args.id (own.member, own.view.now) (c.view-member.result.0, c.view-member.result.1.now) c.args.tracker.now.views c.loop-i.i c.view-member.ensures
    (c.has_same_row.ensures.0 c.if-has_same_row.true))

pub loop-i-preserved : goal.loop-i-preserved
loop-i-preserved c =
    let own = c.args.own in
    c.loop-i.invariant
    ∙ view_not_here own.id c.args.id (own.member, own.view.now) (c.view-member.result.0, c.view-member.result.1.now) c.args.tracker.now.views c.loop-i.i c.has_same_row.result c.view-member.ensures
    c.if-has_same_row.false c.has_same_row.ensures.1

pub returns : goal.returns
returns c =
    let own = c.args.own in
    sym (c.loop-i.invariant
    ∙ ap (λ (vs : List (ℕ × PlainProgress)). has_text (texts_of (view_rows c.args.id vs)) (next_text (view_row own.id (own.member, own.view.now)))) (drop_all c.loop-i.i c.args.tracker.now.views (omega (arith, c.len-i-end.ensures))))
