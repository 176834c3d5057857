use Rattle.std.proofs.Common.{refl}
use Rattle.rb_directive.specs.Table.{options}
use Rattle.rb_report.specs.Manual.{keys}
use Rattle.rb_report.proofs.help.laws.options_are_those_of_the_table.Goals as goal

pub returns : goal.returns
unfolding keys options
returns c = refl
