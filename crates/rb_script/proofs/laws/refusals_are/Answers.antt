use Rattle.rb_script.proofs.RefusalLaws.{edit_fault, edit_made}
use Rattle.rb_script.proofs.laws.refusals_are.Goals as goal

pub returns-clause-refused : goal.returns-clause-refused
returns-clause-refused c = edit_fault

pub returns-clause-made : goal.returns-clause-made
returns-clause-made c = edit_made
