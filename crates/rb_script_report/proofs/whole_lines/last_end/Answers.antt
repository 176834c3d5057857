use Rattle.rb_script_report.proofs.WholeLaws.{end_found, end_none, end_past}
use Rattle.rb_script_report.proofs.whole_lines.last_end.Goals as goal

pub returns-then-last-eq10 : goal.returns-then-last-eq10
returns-then-last-eq10 c =
    end_found c.loop-last.front.now c.in-Some.shorter.now c.args.bytes.now c.without_returns.result.now c.in-Some.last.now c.in-Some.ensures.cases.0 c.if-last-eq10.true c.without_returns.ensures.value c.without_returns.ensures.shorter c.loop-last.invariant

pub loop-last-preserved : goal.loop-last-preserved
loop-last-preserved c = end_past c.loop-last.front.now c.in-Some.shorter.now c.args.bytes.now c.in-Some.last.now c.in-Some.ensures.cases.0 c.if-last-eq10.false c.loop-last.invariant

pub returns : goal.returns
returns c = end_none c.loop-last.front.now c.args.bytes.now c.in_default.ensures.cases c.loop-last.invariant
