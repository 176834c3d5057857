use Rattle.std.proofs.Common.{◌+◌, get_or, drop, arith}
use Rattle.std.proofs.lemmas.List.{take_rest}
use Rattle.rb_lsp.proofs.PositionLaws.{position_more, position_few}
use Rattle.rb_lsp.proofs.document.position.position_on.Goals as goal

pub loop-at-preserved : goal.loop-at-preserved
loop-at-preserved c =
    let next = rw take_rest at c.next_position-position.ensures in
    let few = position_few c.args.encoding (get_or c.args.text.now c.loop-at.at 0) c.loop-at.at (drop (c.loop-at.at + 1) c.args.text.now) c.loop-at.position _ c.loop-at.invariant.line c.loop-at.invariant.character next in
    record {
      value = position_more c.args.encoding c.loop-at.at c.args.text.now c.loop-at.position _ (omega arith) c.loop-at.invariant.value next;
      line = few.0;
      character = few.1;
    }
