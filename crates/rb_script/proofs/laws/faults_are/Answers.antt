use Rattle.rb_script.proofs.FaultLaws.{script_fault, alone_fault}
use Rattle.rb_script.proofs.laws.faults_are.Goals as goal

pub returns-clause-script : goal.returns-clause-script
returns-clause-script c = script_fault

pub returns-clause-block : goal.returns-clause-block
returns-clause-block c = alone_fault
