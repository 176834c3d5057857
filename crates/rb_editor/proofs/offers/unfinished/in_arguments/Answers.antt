use Rattle.std.proofs.Common.{◌∙◌, ◌+◌, ◌-◌, ap, sym, arith}
use Rattle.rb_script.specs.declared.limits.TheConstants.{MAX_ARGUMENTS}
use Rattle.rb_editor.specs.Unfinished.{argument_at}
use Rattle.rb_editor.proofs.WantedLaws.{ends_in, goes_past, is_bad, no_more_arguments}
use Rattle.rb_editor.proofs.offers.unfinished.in_arguments.Goals as goal

pub returns-then-not-begins_space : goal.returns-then-not-begins_space
returns-then-not-begins_space c =
    c.nothing.ensures ∙ sym (is_bad (MAX_ARGUMENTS - c.loop.counter) c.loop.left.now (omega (arith, c.loop-test.true)) (sym c.begins_space.ensures ∙ c.if-not-begins_space.true)) ∙ c.loop.invariant

pub returns-in-Err : goal.returns-in-Err
returns-in-Err c =
    sym (ends_in (MAX_ARGUMENTS - c.loop.counter) (MAX_ARGUMENTS - (c.loop.counter + 1)) c.loop.left.now c.in-Err.wanted (omega (arith, c.loop-test.true)) (sym c.begins_space.ensures ∙ c.if-not-begins_space.false)
    (ap argument_at (sym c.after.ensures) ∙ sym c.in-Err.ensures))
    ∙ c.loop.invariant

pub loop-preserved : goal.loop-preserved
loop-preserved c =
    sym (goes_past (MAX_ARGUMENTS - c.loop.counter) (MAX_ARGUMENTS - (c.loop.counter + 1)) c.loop.left.now c.in-Ok.rest.now (omega (arith, c.loop-test.true)) (sym c.begins_space.ensures ∙ c.if-not-begins_space.false)
    (ap argument_at (sym c.after.ensures) ∙ sym c.in-Ok.ensures))
    ∙ c.loop.invariant

pub returns : goal.returns
returns c = c.nothing-2.ensures ∙ sym (no_more_arguments (MAX_ARGUMENTS - c.loop.counter) c.loop.left.now (omega (arith, c.loop-test.false))) ∙ c.loop.invariant
