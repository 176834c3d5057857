use Rattle.std.proofs.Common.{◌∙◌, ◌++◌, ◌∷◌, [], List, ap, append_assoc, map}
use Rattle.rb_script.specs.Lines.{Line}
use Rattle.rb_report.proofs.CellLaws.{then_is}
use Rattle.rb_replay.specs.Run.{outputs}
use Rattle.rb_script_report.specs.Doubts.{all_warnings}
use Rattle.rb_script_report.specs.declared.warning.Warning.{Warning}
use Rattle.rb_view.specs.Kept.{texts_of}
use Rattle.rb_view.specs.Steps.{end_row, warning_row}
use Rattle.rb_view.proofs.steps.steps.keep_rest.Goals as goal

pub returns : goal.returns
returns g c =
    let s = c.args.session.now.script in
    let last = texts_of (end_row s ∷ []) in
    let doubts = texts_of (map warning_row (all_warnings c.args.layout.now.text c.args.layout.now.heads.items s.blocks (outputs s))) in
    let warned = c.in_ok-keep_warnings.ensures ∙ ap (λ (ws : List Warning). c.args.texts.now ++ texts_of (map warning_row ws)) (c.as_slice.ensures.value ∙ c.in_ok-found.ensures) in
    then_is c.keep_end.result c.keep_end.new.texts _ _ c.keep_end.ensures (ap (λ (l : List Line). l ++ last) warned ∙ append_assoc c.args.texts.now doubts last)
