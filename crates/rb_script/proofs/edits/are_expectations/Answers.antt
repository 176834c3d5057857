use Rattle.std.proofs.Common.{ap, sym, ◌∙◌}
use Rattle.rb_script.specs.Edits.{is_expectation}
use Rattle.rb_script.proofs.SharedLaws.{tests_more, tests_not}
use Rattle.rb_script.proofs.edits.are_expectations.Goals as goal

pub returns-then-not-is_expectation : goal.returns-then-not-is_expectation
returns-then-not-is_expectation c =
    sym (tests_not is_expectation c.args.outputs.now c.loop-i.i c.at.result.now.value c.at.ensures
    (ap is_expectation (sym c.deref.ensures) ∙ sym c.is_expectation.ensures ∙ c.if-not-is_expectation.true))

pub loop-i-preserved : goal.loop-i-preserved
loop-i-preserved c =
    tests_more is_expectation c.args.outputs.now c.loop-i.i c.at.result.now.value c.at.ensures c.loop-i.invariant
    (ap is_expectation (sym c.deref.ensures) ∙ sym c.is_expectation.ensures ∙ c.if-not-is_expectation.false)
