use Rattle.rb_editor.specs.Published.{diagnostic_text}
use Rattle.rb_editor.proofs.ToldLaws.{told_all, told_more}
use Rattle.rb_editor.proofs.actions.publishing.add_all.Goals as goal

pub loop-diagnostic-preserved : goal.loop-diagnostic-preserved
loop-diagnostic-preserved c =
    told_more (diagnostic_text c.args.client c.args.uri.now c.args.text.now) c.args.list.now c.loop-diagnostic.diagnostic-index c.diagnostic-item.result c.loop-diagnostic.left c.left_behind-left.result c.loop-diagnostic.lead.now
    c.loop-diagnostic.out.items c.extend_from_slice.new.self.items c.add_diagnostic.new.out.items _ c.loop-diagnostic-test.true c.diagnostic-item.is c.left_behind-left.ensures c.in_ok-extend_from_slice.ensures.items
    c.in_ok-add_diagnostic.ensures c.loop-diagnostic.invariant

pub returns : goal.returns
returns c =
    told_all (diagnostic_text c.args.client c.args.uri.now c.args.text.now) c.args.list.now c.loop-diagnostic.diagnostic-index c.loop-diagnostic.left c.loop-diagnostic.lead.now c.loop-diagnostic.out.items _ _ c.loop-diagnostic-test.false
    c.in_ok-extend_from_slice-2.ensures.items c.loop-diagnostic.invariant
