use Rattle.std.proofs.Common.{◌++◌, ◌∙◌, ap, append_assoc}
use Rattle.std.proofs.lemmas.Result.{on_ok_weaker}
use Rattle.rb_texts.specs.Messages.{message_text}
use Rattle.rb_texts.proofs.PieceLaws.{added_twice}
use Rattle.rb_texts.proofs.messages.add_message.Goals as goal

pub returns : goal.returns
unfolding message_text
returns c =
    let before = c.args.line.now in
    let named = added_twice before c.add_way.new.line c.add_bytes.new.line _ _ c.in_ok-add_way.ensures c.in_ok-add_bytes.ensures in
    let term = added_twice before c.add_bytes.new.line c.add_term.new.line _ _ named c.in_ok-add_term.ensures in
    on_ok_weaker c.add_kind.result
    (λ e. added_twice before c.add_term.new.line c.add_kind.new.line _ _ term e ∙ ap (λ l. before ++ l) (simp (append_assoc, c.text.ensures, c.message_type.ensures)))
    c.add_kind.ensures
