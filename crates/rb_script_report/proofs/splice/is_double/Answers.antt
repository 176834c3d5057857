use Rattle.std.proofs.Common.{List, ap, sym}
use Rattle.rb_script.specs.Lines.{Line}
use Rattle.rb_script.specs.Reads.{begins_rule}
use Rattle.rb_script.proofs.LineLaws.{lines_nil}
use Rattle.rb_script_report.proofs.splice.is_double.Goals as goal

pub returns-in-None : goal.returns-in-None
returns-in-None c = sym (ap (λ (ls : List Line). begins_rule ls) (lines_nil c.args.bytes.now c.in-None.ensures.cut))
