use Rattle.std.proofs.Common.{sym, ◌∙◌}
use Rattle.std.proofs.lemmas.List.{nil_from_length}
use Rattle.rb_script.proofs.MarkLaws.{behind_all, behind_more, body_last, body_none}
use Rattle.rb_editor.proofs.offers.above.body.Goals as goal

pub loop-last-init : goal.loop-last-init
loop-last-init c = behind_all c.args.line.now

pub loop-last-preserved : goal.loop-last-preserved
loop-last-preserved c = behind_more c.args.line.now c.loop-last.front.now c.in-Some.shorter.now c.in-Some.last.now c.loop-last.invariant c.in-Some.ensures.cases.0 (sym c.is_space.ensures ∙ c.if-not-is_space.false)

pub returns-then-not-is_space : goal.returns-then-not-is_space
returns-then-not-is_space c =
    sym (body_last c.args.line.now c.loop-last.front.now c.in-Some.shorter.now c.in-Some.last.now c.loop-last.invariant c.in-Some.ensures.cases.0 (sym c.is_space.ensures ∙ c.if-not-is_space.true))

pub returns-in_default : goal.returns-in_default
returns-in_default c = nil_from_length c.loop-last.front.now c.in_default.ensures.cases ∙ sym (body_none c.args.line.now c.loop-last.front.now c.loop-last.invariant c.in_default.ensures.cases)
