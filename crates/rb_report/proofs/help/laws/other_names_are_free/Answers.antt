use Rattle.std.proofs.Common.{refl}
use Rattle.rb_directive.specs.Table.{directives}
use Rattle.rb_report.specs.Forms.{other_names}
use Rattle.rb_report.proofs.help.laws.other_names_are_free.Goals as goal

pub returns-clause-names : goal.returns-clause-names
unfolding other_names directives
returns-clause-names c = refl

pub returns-clause-lines : goal.returns-clause-lines
unfolding other_names
returns-clause-lines c = refl
