use Rattle.std.proofs.Common.{sym, ◌∙◌}
use Rattle.rb_script.proofs.MarkLaws.{without_front_space, without_front_stays, without_front_nil}
use Rattle.rb_script.proofs.marks.trim_blanks.Goals as goal

pub loop-first-preserved : goal.loop-first-preserved
loop-first-preserved c = sym (without_front_space c.loop-first.rest.now c.in-Some.first.now c.in-Some.after.now c.in-Some.ensures.cases.0 (sym c.is_space.ensures ∙ c.if-not-is_space.false)) ∙ c.loop-first.invariant

pub returns-then-not-is_space : goal.returns-then-not-is_space
returns-then-not-is_space c = without_front_stays c.loop-first.rest.now c.in-Some.first.now c.in-Some.after.now c.in-Some.ensures.cases.0 (sym c.is_space.ensures ∙ c.if-not-is_space.true) ∙ c.loop-first.invariant

pub returns-in_default : goal.returns-in_default
returns-in_default c = without_front_nil c.loop-first.rest.now c.in_default.ensures.cases ∙ c.loop-first.invariant
