use Rattle.rb_lsp.proofs.SelectionLaws.{position_all, position_more}
use Rattle.rb_lsp.proofs.server.selection.positions_in.Goals as goal

pub loop-place-preserved : goal.loop-place-preserved
loop-place-preserved c =
    position_more c.args.places.now c.loop-place.place-index c.place-item.result c.as_position.result c.loop-place.list.items c.keep.new.list.items _ c.loop-place-test.true c.place-item.is c.as_position.ensures
    c.in_ok-keep.ensures c.loop-place.invariant

pub returns : goal.returns
returns c = position_all c.args.places.now c.loop-place.place-index c.loop-place.list.items _ c.loop-place-test.false c.loop-place.invariant
