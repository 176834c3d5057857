use Rattle.std.proofs.Common.{◌∙◌, ◌++◌, ℕ, List, ap}
use Rattle.rb_editor.proofs.LensLaws.{of_run}
use Rattle.rb_editor.proofs.actions.lens.add_of_run.Goals as goal

pub returns : goal.returns
returns g c =
    c.in_ok-add_list.ensures
    ∙ ap (λ (l : List ℕ). c.args.out.now.items ++ l)
    (of_run c.args.run.now.encoding c.args.client c.args.uri.now c.args.run.now.bytes c.text-text.result.now c.args.run.now.script c.session-session.result.now.script c.layout-layout.result.now c.as_slice.result.now c.layout-layout.ensures
    c.text-text.ensures c.session-session.ensures (c.as_slice.ensures.value ∙ c.in_ok-list.ensures))
