use Rattle.std.proofs.Common.{◌++◌, ◌∙◌, ap, append_assoc}
use Rattle.std.proofs.lemmas.Result.{on_ok_weaker}
use Rattle.rb_texts.specs.States.{hard_state_text}
use Rattle.rb_texts.proofs.PieceLaws.{added_twice}
use Rattle.rb_texts.proofs.states.add_hard_state.Goals as goal

pub returns : goal.returns
unfolding hard_state_text
returns c =
    let before = c.args.line.now in
    let vote = added_twice before c.add_field.new.line c.add_field-2.new.line _ _ c.in_ok-add_field.ensures c.in_ok-add_field-2.ensures in
    on_ok_weaker c.add_field-3.result
    (λ e. added_twice before c.add_field-2.new.line c.add_field-3.new.line _ _ vote e ∙ ap (λ l. before ++ l) (simp append_assoc))
    c.add_field-3.ensures
