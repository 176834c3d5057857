use Rattle.std.proofs.Common.{◌++◌, ap, ◌∙◌}
use Rattle.std.proofs.lemmas.Result.{on_ok_weaker}
use Rattle.rb_texts.proofs.TextLaws.{word_pieces}
use Rattle.rb_texts.proofs.errors.add_word.Goals as goal

pub returns : goal.returns
returns c = on_ok_weaker c.add_pieces.result (λ e. e ∙ ap (λ l. c.args.line.now ++ l) (word_pieces c.args.text.now c.args.word.now c.min.result c.min.ensures)) c.add_pieces.ensures
