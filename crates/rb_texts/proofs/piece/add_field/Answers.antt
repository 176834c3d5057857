use Rattle.std.proofs.Common.{decimal}
use Rattle.std.proofs.lemmas.Result.{on_ok_weaker}
use Rattle.rb_texts.proofs.PieceLaws.{added_twice}
use Rattle.rb_texts.proofs.piece.add_field.Goals as goal

pub returns : goal.returns
returns c =
    on_ok_weaker c.add_number.result
    (added_twice c.args.line.now c.add_bytes.new.line c.add_number.new.line c.args.name.now (decimal c.args.n) c.in_ok-add_bytes.ensures) c.add_number.ensures
