use Rattle.rb_editor.proofs.SelectionLaws.{closings_all, closings_more}
use Rattle.rb_editor.proofs.actions.selection_range.add_closings.Goals as goal

pub loop-closing-preserved : goal.loop-closing-preserved
loop-closing-preserved c = closings_more c.args.spans.now c.loop-closing._closing c.loop-closing.out.items c.push.new.self.items _ c.loop-closing-test.true c.in_ok-push.ensures.items c.loop-closing.invariant

pub returns : goal.returns
returns c = closings_all c.args.spans.now c.loop-closing._closing c.loop-closing.out.items _ c.loop-closing-test.false c.loop-closing.invariant
