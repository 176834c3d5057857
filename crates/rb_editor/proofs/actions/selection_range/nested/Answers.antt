use Rattle.rb_editor.proofs.SelectionLaws.{nested_all, nested_more}
use Rattle.rb_editor.proofs.actions.selection_range.nested.Goals as goal

pub loop-span-preserved : goal.loop-span-preserved
loop-span-preserved c =
    nested_more c.loop-span.last c.in_ok-last.last c.args.spans.now c.loop-span.span-index _ c.loop-span.list.items c.take_next.new.list.items _ c.loop-span-test.true c.in_ok-last.ensures.last
    c.in_ok-last.ensures.taken c.loop-span.invariant

pub returns : goal.returns
returns c = nested_all c.loop-span.last c.args.spans.now c.loop-span.span-index c.loop-span.list.items _ c.loop-span-test.false c.loop-span.invariant
