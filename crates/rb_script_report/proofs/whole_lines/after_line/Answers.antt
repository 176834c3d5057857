use Rattle.rb_script_report.proofs.WholeLaws.{after_at, after_none}
use Rattle.rb_script_report.proofs.whole_lines.after_line.Goals as goal

pub returns-in-Some-clause-value : goal.returns-in-Some-clause-value
returns-in-Some-clause-value c = after_at c.args.bytes.now c.in-Some.end c.in-Some.ensures.found.0 c.in-Some.ensures.found.1 c.in-Some.ensures.first

pub returns-in-None-clause-value : goal.returns-in-None-clause-value
returns-in-None-clause-value c = after_none c.args.bytes.now c.in-None.ensures.none
