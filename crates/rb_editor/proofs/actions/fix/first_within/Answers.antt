use Rattle.std.proofs.Common.{◌∙◌, sym}
use Rattle.rb_editor.proofs.FixLaws.{within_here, within_next, within_none}
use Rattle.rb_editor.proofs.actions.fix.first_within.Goals as goal

pub returns-then-is_within : goal.returns-then-is_within
returns-then-is_within c =
    sym (within_here c.args.span c.args.slips.now c.loop-slip.slip-index _ c.loop-slip-test.true (sym c.is_within.ensures ∙ c.if-is_within.true)) ∙ c.loop-slip.invariant

pub loop-slip-preserved : goal.loop-slip-preserved
loop-slip-preserved c =
    sym (within_next c.args.span c.args.slips.now c.loop-slip.slip-index _ c.loop-slip-test.true (sym c.is_within.ensures ∙ c.if-is_within.false)) ∙ c.loop-slip.invariant

pub returns : goal.returns
returns c = sym (within_none c.args.span c.args.slips.now c.loop-slip.slip-index c.loop-slip-test.false) ∙ c.loop-slip.invariant
