use Rattle.std.proofs.Common.{◌++◌, ◌∙◌, ap, append_assoc}
use Rattle.std.proofs.lemmas.Result.{on_ok_weaker}
use Rattle.rb_texts.specs.Entries.{entry_text}
use Rattle.rb_texts.proofs.PieceLaws.{added_twice}
use Rattle.rb_texts.proofs.entries.add_entry.Goals as goal

pub returns : goal.returns
unfolding entry_text
returns c =
    let before = c.args.line.now in
    let place = added_twice before c.add_place.new.line c.add_bytes.new.line _ _ c.in_ok-add_place.ensures c.in_ok-add_bytes.ensures in
    on_ok_weaker c.add_body.result
    (λ e. added_twice before c.add_bytes.new.line c.add_body.new.line _ _ place e ∙ ap (λ l. before ++ l) (simp append_assoc))
    c.add_body.ensures
