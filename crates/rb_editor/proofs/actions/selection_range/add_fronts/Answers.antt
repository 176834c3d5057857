use Rattle.rb_editor.proofs.SelectionLaws.{fronts_all, fronts_more}
use Rattle.rb_editor.proofs.actions.selection_range.add_fronts.Goals as goal

pub loop-span-preserved : goal.loop-span-preserved
loop-span-preserved c =
    fronts_more c.args.encoding c.args.text.now c.args.spans.now c.loop-span.span-index _ c.loop-span.lead.now c.loop-span.out.items c.extend_from_slice.new.self.items c.add_span.new.out.items _
    c.loop-span-test.true c.in_ok-extend_from_slice.ensures.items c.in_ok-add_span.ensures c.loop-span.invariant

pub returns : goal.returns
returns c = fronts_all c.args.encoding c.args.text.now c.args.spans.now c.loop-span.span-index c.loop-span.lead.now c.loop-span.out.items _ c.loop-span-test.false c.loop-span.invariant
