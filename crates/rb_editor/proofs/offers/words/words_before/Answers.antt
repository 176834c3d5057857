use Rattle.std.proofs.Common.{◌∙◌, ◌+◌, ◌-◌, sym, arith}
use Rattle.rb_script.specs.declared.limits.TheConstants.{MAX_ARGUMENTS}
use Rattle.rb_editor.proofs.WordLaws.{count_bad, count_ends, count_none, count_past}
use Rattle.rb_editor.proofs.offers.words.words_before.Goals as goal

pub returns-then-not-begins_space : goal.returns-then-not-begins_space
returns-then-not-begins_space c =
    omega (arith, c.loop.invariant.same, count_bad (MAX_ARGUMENTS - c.loop.counter) c.loop.left.now (omega (arith, c.loop-test.true)) (sym c.begins_space.ensures ∙ c.if-not-begins_space.true))

pub returns-in-Err : goal.returns-in-Err
returns-in-Err c =
    omega (
      arith,
      c.loop.invariant.same,
      count_ends (MAX_ARGUMENTS - c.loop.counter) (MAX_ARGUMENTS - (c.loop.counter + 1)) c.loop.left.now c.after-argument.result.now _ (omega (arith, c.loop-test.true))
          (sym c.begins_space.ensures ∙ c.if-not-begins_space.false) c.after-argument.ensures (sym c.in-Err.ensures),
    )

pub loop-preserved : goal.loop-preserved
loop-preserved c =
    let more = count_past (MAX_ARGUMENTS - c.loop.counter) (MAX_ARGUMENTS - (c.loop.counter + 1)) c.loop.left.now c.after-argument.result.now c.in-Ok.rest.now (omega (arith, c.loop-test.true))
    (sym c.begins_space.ensures ∙ c.if-not-begins_space.false) c.after-argument.ensures (sym c.in-Ok.ensures) in
    record {
      same = omega (arith, c.loop.invariant.same, more, c.word_count-words.ensures.value);
      few = omega (arith, c.loop.invariant.few, c.word_count-words.ensures.few);
    }

pub returns : goal.returns
returns c = omega (arith, c.loop.invariant.same, count_none (MAX_ARGUMENTS - c.loop.counter) c.loop.left.now (omega (arith, c.loop-test.false)))
