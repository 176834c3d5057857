use Rattle.std.proofs.Common.{◌≡◌, ◌∙◌, ◌++◌, [], ◌∷◌, Bool, List, ap, sym, append-nil}
use Rattle.std.specs.Prelude.{if◌then◌else◌}
use Rattle.rb_script.specs.Lines.{Line}
use Rattle.rb_report.proofs.CellLaws.{then_is}
use Rattle.rb_view.specs.Kept.{texts_of}
use Rattle.rb_view.specs.Rows.{Row}
use Rattle.rb_view.specs.States.{view_row}
use Rattle.rb_view.proofs.steps.views.keep_new_view.Goals as goal

pub returns-then-has_row_among : goal.returns-then-has_row_among
returns-then-has_row_among c =
    let own = view_row c.args.own.id (c.args.own.member, c.args.own.view.now) in
    sym (ap (λ (t : Bool). c.args.texts.now ++ texts_of (if t then [] else own ∷ [])) (sym c.has_row_among.ensures ∙ c.if-has_row_among.true) ∙ append-nil c.args.texts.now)

pub returns : goal.returns
returns c =
    let own = view_row c.args.own.id (c.args.own.member, c.args.own.view.now) in
    then_is c.keep_view.result c.keep_view.new.texts _ _ c.keep_view.ensures
    (ap (λ (t : Bool). c.args.texts.now ++ texts_of (if t then [] else own ∷ [])) (sym (sym c.has_row_among.ensures ∙ c.if-has_row_among.false)))
