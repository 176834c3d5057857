use Rattle.std.proofs.Common.{◌∙◌, ◌++◌, [], ◌∷◌, List, ap}
use Rattle.rb_script.specs.Lines.{Line}
use Rattle.rb_report.proofs.CellLaws.{then_is}
use Rattle.rb_view.specs.Kept.{texts_of}
use Rattle.rb_view.specs.States.{config_row}
use Rattle.rb_view.proofs.NewRowLaws.{config_new, same_config_kept}
use Rattle.rb_view.proofs.steps.node.keep_new_config.Goals as goal

pub returns : goal.returns
returns g c =
    let old = c.args.old.now in
    let new = c.args.new.now in
    then_is c.keep_new.result c.keep_new.new.texts _ _ c.keep_new.ensures
    (ap (λ (l : List Line). c.args.texts.now ++ l)
    (config_new c.keep_config.new.texts c.keep_config-2.new.texts old new
    (c.in_ok-keep_config.ensures ∙ ap (λ (l : List Line). l ++ texts_of (config_row old ∷ [])) c.new-olds.ensures)
    (c.in_ok-keep_config-2.ensures ∙ ap (λ (l : List Line). l ++ texts_of (config_row new ∷ [])) c.new-news.ensures)))

pub returns-then-has_same_config : goal.returns-then-has_same_config
returns-then-has_same_config g c = same_config_kept c.args.texts.now c.args.old.now c.args.new.now (c.has_same_config.ensures c.if-has_same_config.true)
