use Rattle.std.proofs.Common.{◌∙◌, ◌++◌, [], ◌∷◌, List, ap}
use Rattle.rb_script.specs.Lines.{Line}
use Rattle.rb_report.proofs.CellLaws.{then_is}
use Rattle.rb_view.specs.Kept.{texts_of}
use Rattle.rb_view.specs.States.{node_row}
use Rattle.rb_view.proofs.NewRowLaws.{node_new}
use Rattle.rb_view.proofs.steps.node.keep_other_numbers.Goals as goal

pub returns : goal.returns
returns g c =
    let old = c.args.old.now in
    let new = c.args.new.now in
    then_is c.keep_new.result c.keep_new.new.texts _ _ c.keep_new.ensures
    (ap (λ (l : List Line). c.args.texts.now ++ l)
    (node_new c.keep_node.new.texts c.keep_node-2.new.texts old new
    (c.in_ok-keep_node.ensures ∙ ap (λ (l : List Line). l ++ texts_of (node_row old ∷ [])) c.new-olds.ensures)
    (c.in_ok-keep_node-2.ensures ∙ ap (λ (l : List Line). l ++ texts_of (node_row new ∷ [])) c.new-news.ensures)))
