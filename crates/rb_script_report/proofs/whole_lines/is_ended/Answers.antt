use Rattle.std.proofs.Common.{◌∙◌, ap, sym}
use Rattle.rb_script_report.specs.WholeLines.{is_ended}
use Rattle.rb_script_report.proofs.WholeLaws.{ended_last, ended_nil}
use Rattle.rb_script_report.proofs.whole_lines.is_ended.Goals as goal

pub returns-in-Some : goal.returns-in-Some
returns-in-Some c = sym (ap is_ended c.in-Some.ensures.cases.0 ∙ ended_last c.in-Some.field-0-1.now c.in-Some.last.now)

pub returns-in-None : goal.returns-in-None
returns-in-None c = ended_nil c.args.bytes.now c.in-None.ensures.cases
