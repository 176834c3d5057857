use Rattle.std.proofs.Common.{◌++◌, ap, sym, ◌∙◌}
use Rattle.std.proofs.lemmas.Fmt.{decimal_digit}
use Rattle.std.proofs.lemmas.Result.{on_ok_weaker}
use Rattle.rb_texts.proofs.piece.add_number.Goals as goal

pub returns-then-n-lt10 : goal.returns-then-n-lt10
returns-then-n-lt10 c = on_ok_weaker c.add_byte.result (λ e. e ∙ ap (λ l. c.args.line.now ++ l) (sym (decimal_digit c.args.n c.if-n-lt10.true))) c.add_byte.ensures
