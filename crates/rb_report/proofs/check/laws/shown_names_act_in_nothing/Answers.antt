use Rattle.rb_report.proofs.NameLaws.{shown_quiet, shown_visible}
use Rattle.rb_report.proofs.check.laws.shown_names_act_in_nothing.Goals as goal

pub returns-clause-quiet : goal.returns-clause-quiet
returns-clause-quiet c = shown_quiet

pub returns-clause-visible : goal.returns-clause-visible
returns-clause-visible c = shown_visible
