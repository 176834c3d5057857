use Rattle.std.proofs.Common.{decimal}
use Rattle.std.proofs.lemmas.Result.{on_ok_weaker}
use Rattle.rb_texts.proofs.PieceLaws.{added_twice}
use Rattle.rb_texts.proofs.piece.add_numbered.Goals as goal

pub returns : goal.returns
returns c =
    on_ok_weaker c.add_bytes.result
    (added_twice c.args.line.now c.add_number.new.line c.add_bytes.new.line (decimal c.args.n) c.args.bytes.now c.in_ok-add_number.ensures) c.add_bytes.ensures
