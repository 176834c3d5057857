use Rattle.std.proofs.Common.{◌++◌, ◌∙◌, ap, append_assoc, append-nil}
use Rattle.std.proofs.lemmas.Result.{on_ok_weaker}
use Rattle.rb_texts.proofs.PieceLaws.{added_twice}
use Rattle.rb_texts.proofs.entries.add_change.Goals as goal

pub returns : goal.returns
returns c =
    let name = rw c.transition_name.ensures at c.in_ok-add_pieces.ensures in
    on_ok_weaker c.add_words.result
    (λ e. added_twice c.args.line.now c.add_pieces.new.line c.add_words.new.line _ _ name e ∙ ap (λ l. c.args.line.now ++ l) (simp (append_assoc, append-nil)))
    c.add_words.ensures
