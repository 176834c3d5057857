use Rattle.std.proofs.Common.{◌++◌, codes, decimal}
use Rattle.std.proofs.lemmas.Result.{on_ok_weaker}
use Rattle.rb_texts.proofs.PieceLaws.{added_twice}
use Rattle.rb_texts.proofs.piece.add_place.Goals as goal

pub returns : goal.returns
returns c =
    let slash = added_twice c.args.line.now c.add_number.new.line c.add_byte.new.line (decimal c.args.term) (codes "/") c.in_ok-add_number.ensures c.in_ok-add_byte.ensures in
    on_ok_weaker c.add_number-2.result
    (added_twice c.args.line.now c.add_byte.new.line c.add_number-2.new.line (decimal c.args.term ++ codes "/") (decimal c.args.index) slash) c.add_number-2.ensures
