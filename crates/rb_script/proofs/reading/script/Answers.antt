use Rattle.rb_script.specs.declared.with_lines.ScriptWithLines.{ScriptWithLines}
use Rattle.rb_script.specs.Script.{PlainScript}
use Rattle.rb_script.specs.Reading.{early_fault}
use Rattle.rb_script.proofs.ResultLaws.{early_through}
use Rattle.rb_script.proofs.reading.script.Goals as goal

pub returns-in-Err-clause-early : goal.returns-in-Err-clause-early
returns-in-Err-clause-early c = early_through ScriptWithLines PlainScript (early_fault c.args.bytes.now) c.in-Err.fault c.in-Err.ensures.early
