use Rattle.std.proofs.Common.{refl, sym, ap, ◌∙◌, arith}
use Rattle.std.proofs.lemmas.List.{drop_all}
use Rattle.rb_script.specs.Reads.{begins_rule}
use Rattle.rb_script.proofs.ListLaws.{drop_there}
use Rattle.rb_script.proofs.reading.after_rule.Goals as goal
use Rattle.rb_script.proofs.reading.after_rule.Goals.{else-at-len-via-then-at-len+else-is_rule, else-at-len-via-else-at-len}

pub returns-then-is_rule-clause-found : goal.returns-then-is_rule-clause-found
returns-then-is_rule-clause-found c =
    let all = c.args.all.now in
    let at = c.args.at in
    let line = c.line.result.now in
    (ap begins_rule (drop_there all at line c.line.ensures) ∙ sym c.is_rule.ensures ∙ c.if-is_rule.true, refl)

pub returns-else-at-len-clause-none : goal.returns-else-at-len-clause-none
returns-else-at-len-clause-none c =
    let all = c.args.all.now in
    let at = c.args.at in
    elim c.else-at-len.branch [
      | else-at-len-via-then-at-len+else-is_rule w ↦ ap begins_rule (drop_there all at w.line.result.now w.line.ensures) ∙ sym w.is_rule.ensures ∙ w.if-is_rule.false
      | else-at-len-via-else-at-len w ↦ ap begins_rule (drop_all at all (omega (arith, w.if-at-len.false)))
    ]
