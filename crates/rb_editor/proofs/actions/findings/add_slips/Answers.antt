use Rattle.rb_editor.proofs.FindingLaws.{slips_all, slips_more}
use Rattle.rb_editor.proofs.actions.findings.add_slips.Goals as goal

pub loop-warning-preserved : goal.loop-warning-preserved
loop-warning-preserved c =
    slips_more c.args.slips.now c.loop-warning.warning-index _ c.args.list.now.items c.loop-warning.list.items c.keep.new.list.items c.in_ok-found.found c.loop-warning-test.true c.loop-warning.invariant c.in_ok-keep.ensures
    c.in_ok-found.ensures

pub returns : goal.returns
returns c = slips_all c.args.slips.now c.loop-warning.warning-index c.args.list.now.items c.loop-warning.list.items c.loop-warning-test.false c.loop-warning.invariant
