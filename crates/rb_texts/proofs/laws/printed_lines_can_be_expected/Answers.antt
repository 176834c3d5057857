use Rattle.rb_texts.proofs.PrintedLaws.{printed_expected}
use Rattle.rb_texts.proofs.laws.printed_lines_can_be_expected.Goals as goal

pub returns : goal.returns
returns c = printed_expected
