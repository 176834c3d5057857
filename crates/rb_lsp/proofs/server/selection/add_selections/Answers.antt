use Rattle.rb_lsp.proofs.SelectionLaws.{selection_more}
use Rattle.rb_lsp.proofs.server.selection.add_selections.Goals as goal

pub loop-position-preserved : goal.loop-position-preserved
loop-position-preserved g c =
    selection_more g.V.Service.meaning c.args.request.now.client c.args.request.now.uri.now c.args.text.now c.args.positions.now c.loop-position.position-index (record { line = 0; character = 0 }) c.loop-position.lead.now c.loop-position.out.items
    c.extend_from_slice.new.self.items c.add_answer.new.out.items _ c.loop-position-test.true c.in_ok-extend_from_slice.ensures.items (c.in_ok-stop.ensures.added c.in-None.is) c.loop-position.invariant
