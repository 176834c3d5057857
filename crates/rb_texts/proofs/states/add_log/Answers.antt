use Rattle.std.proofs.Common.{◌++◌, ◌∙◌, ap, append_assoc, append-nil}
use Rattle.std.proofs.lemmas.Result.{on_ok_weaker}
use Rattle.rb_texts.specs.States.{log_text}
use Rattle.rb_texts.proofs.states.add_log.Goals as goal

pub returns : goal.returns
unfolding log_text
returns c = on_ok_weaker c.add_pieces.result (λ e. e ∙ ap (λ l. c.args.line.now ++ l) (simp (append_assoc, append-nil))) c.add_pieces.ensures
