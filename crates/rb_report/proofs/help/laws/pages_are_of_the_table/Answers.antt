use Rattle.std.proofs.Common.{refl}
use Rattle.rb_directive.specs.Table.{directives}
use Rattle.rb_report.specs.Manual.{pages}
use Rattle.rb_report.proofs.help.laws.pages_are_of_the_table.Goals as goal

pub returns : goal.returns
unfolding pages directives
returns c = refl
