use Rattle.std.proofs.Common.{◌++◌, ap, sym, ◌∙◌}
use Rattle.std.proofs.lemmas.Result.{on_ok_weaker}
use Rattle.rb_texts.proofs.PieceLaws.{two_digits}
use Rattle.rb_texts.proofs.piece.add_two_digits.Goals as goal

pub returns : goal.returns
returns c = on_ok_weaker c.add_bytes.result (λ e. e ∙ ap (λ l. c.args.line.now ++ l) (sym (two_digits c.args.n c.requires.least c.requires.most))) c.add_bytes.ensures
