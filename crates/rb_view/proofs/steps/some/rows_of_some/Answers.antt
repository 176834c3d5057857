use Rattle.std.proofs.Common.{◌∙◌, ◌-◌, ◌++◌, List, ap}
use Rattle.std.specs.List.{flat_map}
use Rattle.rb_script.specs.Lines.{Line}
use Rattle.rb_view.specs.PageRoom.{held}
use Rattle.rb_view.specs.SomeSteps.{some_steps, texts_after}
use Rattle.rb_view.specs.Steps.{step_texts}
use Rattle.rb_view.proofs.SomeLaws.{some_full}
use Rattle.rb_view.proofs.steps.some.rows_of_some.Goals as goal

pub returns-then-not-fits-clause-rows : goal.returns-then-not-fits-clause-rows
returns-then-not-fits-clause-rows g c =
    let s = c.args.session.now.script in
    let some = c.args.some in
    some_full c.new-texts.result (flat_map step_texts (some_steps some.heads.now s some.from (some.to - some.from))) (texts_after some.warnings.now s) c.new-texts.ensures (c.in_ok-fits.ensures.full c.if-not-fits.true)

pub returns-clause-rows : goal.returns-clause-rows
returns-clause-rows g c =
    let s = c.args.session.now.script in
    let some = c.args.some in
    let after = texts_after some.warnings.now s in
    let mid = flat_map step_texts (some_steps some.heads.now s some.from (some.to - some.from)) in
    c.held.ensures
    ∙ ap held (c.in_ok-keep_after.ensures ∙ ap (λ (ls : List Line). ls ++ after) (c.in_ok-fits.ensures.texts c.if-not-fits.false ∙ ap (λ (ls : List Line). ls ++ mid) c.new-texts.ensures))
