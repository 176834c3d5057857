use Rattle.std.proofs.Common.{◌∙◌, ap, sym, arith}
use Rattle.std.proofs.lemmas.Bool.{ne_eqb}
use Rattle.rb_script_report.specs.WholeLines.{is_ended}
use Rattle.rb_script_report.proofs.WholeLaws.{ended_last, ended_nil, line_front, unended_at, unended_same}
use Rattle.rb_script_report.proofs.whole_lines.unended.Goals as goal

pub returns-in-Some-clause-value : goal.returns-in-Some-clause-value
returns-in-Some-clause-value c = unended_at c.args.bytes.now c.in-Some.front.now c.without_returns.result.now c.in-Some.last.now c.in-Some.ensures.cases.0 c.if-last-eq10.true c.without_returns.ensures.value

pub returns-in-Some-clause-front : goal.returns-in-Some-clause-front
returns-in-Some-clause-front c = line_front c.args.bytes.now c.in-Some.front.now c.without_returns.result.now c.in-Some.last.now c.in-Some.ensures.cases.0 c.without_returns.ensures.value c.without_returns.ensures.shorter

pub returns-in_default-clause-value : goal.returns-in_default-clause-value
returns-in_default-clause-value c =
    unended_same c.args.bytes.now (ap is_ended c.in-Some.ensures.cases.0 ∙ ended_last c.in-Some.front.now c.in-Some.last.now ∙ ne_eqb c.in-Some.last.now 10 c.if-last-eq10.false)

pub returns-in_default-2-clause-value : goal.returns-in_default-2-clause-value
returns-in_default-2-clause-value c = unended_same c.args.bytes.now (sym (ended_nil c.args.bytes.now (grind arith)))
