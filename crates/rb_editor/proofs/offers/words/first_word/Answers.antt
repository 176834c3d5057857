use Rattle.std.proofs.Common.{◌∙◌, ◌+◌, ◌-◌, sym, arith}
use Rattle.rb_script.specs.declared.limits.TheConstants.{MAX_ARGUMENTS}
use Rattle.rb_editor.proofs.WordLaws.{first_bad, first_ends, first_here, first_none, first_past}
use Rattle.rb_editor.proofs.offers.words.first_word.Goals as goal

pub returns-then-not-begins_space : goal.returns-then-not-begins_space
returns-then-not-begins_space c = first_bad (MAX_ARGUMENTS - c.loop.counter) c.loop.left.now (omega (arith, c.loop-test.true)) (sym c.begins_space.ensures ∙ c.if-not-begins_space.true) ∙ c.loop.invariant

pub returns-then-not-is_option : goal.returns-then-not-is_option
returns-then-not-is_option c =
    c.front.ensures
    ∙ first_here (MAX_ARGUMENTS - c.loop.counter) (MAX_ARGUMENTS - (c.loop.counter + 1)) c.loop.left.now c.after-argument.result.now (omega (arith, c.loop-test.true)) (sym c.begins_space.ensures ∙ c.if-not-begins_space.false) c.after-argument.ensures
    (sym c.is_option.ensures ∙ c.if-not-is_option.true)
    ∙ c.loop.invariant

pub returns-in-Err : goal.returns-in-Err
returns-in-Err c =
    first_ends (MAX_ARGUMENTS - c.loop.counter) (MAX_ARGUMENTS - (c.loop.counter + 1)) c.loop.left.now c.after-argument.result.now _ (omega (arith, c.loop-test.true)) (sym c.begins_space.ensures ∙ c.if-not-begins_space.false) c.after-argument.ensures
    (sym c.is_option.ensures ∙ c.if-not-is_option.false) (sym c.in-Err.ensures)
    ∙ c.loop.invariant

pub loop-preserved : goal.loop-preserved
loop-preserved c =
    sym (first_past (MAX_ARGUMENTS - c.loop.counter) (MAX_ARGUMENTS - (c.loop.counter + 1)) c.loop.left.now c.after-argument.result.now c.in-Ok.rest.now (omega (arith, c.loop-test.true)) (sym c.begins_space.ensures ∙ c.if-not-begins_space.false)
    c.after-argument.ensures (sym c.is_option.ensures ∙ c.if-not-is_option.false) (sym c.in-Ok.ensures))
    ∙ c.loop.invariant

pub returns : goal.returns
returns c = first_none (MAX_ARGUMENTS - c.loop.counter) c.loop.left.now (omega (arith, c.loop-test.false)) ∙ c.loop.invariant
