use Rattle.rb_bench.proofs.NameLaws.{script_names, edit_names}
use Rattle.rb_bench.proofs.laws.names_are_distinct.Goals as goal

pub returns-clause-script : goal.returns-clause-script
returns-clause-script c = script_names

pub returns-clause-edit : goal.returns-clause-edit
returns-clause-edit c = edit_names
