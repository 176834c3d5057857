use Rattle.std.proofs.Common.{sym}
use Rattle.rb_editor.proofs.BlockLaws.{script_none, script_read}
use Rattle.rb_editor.proofs.offers.block_lines.script_of.Goals as goal

pub returns-in-Ok-clause-value : goal.returns-in-Ok-clause-value
returns-in-Ok-clause-value c = sym (script_read c.args.bytes.now c.in-Ok.script c.in-Ok.ensures.exact)

pub returns-in_ok-refused-in-Err-clause-value : goal.returns-in_ok-refused-in-Err-clause-value
returns-in_ok-refused-in-Err-clause-value c = sym (script_none c.args.bytes.now c.in-Err.fault c.in-Err.ensures.exact c.in_ok-refused-in-Err.ensures)
