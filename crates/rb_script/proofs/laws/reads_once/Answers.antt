use Rattle.rb_script.proofs.ScriptLaws.{reads_once}
use Rattle.rb_script.proofs.laws.reads_once.Goals as goal

pub returns : goal.returns
returns c = reads_once
