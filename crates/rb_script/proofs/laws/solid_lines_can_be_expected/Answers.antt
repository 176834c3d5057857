use Rattle.rb_script.proofs.SolidLaws.{solid_expected, solid_plain}
use Rattle.rb_script.proofs.laws.solid_lines_can_be_expected.Goals as goal

pub returns-clause-expected : goal.returns-clause-expected
returns-clause-expected c = solid_expected

pub returns-clause-plain : goal.returns-clause-plain
returns-clause-plain c = solid_plain
