use Rattle.rb_texts.proofs.PrintedLaws.{printed_plain}
use Rattle.rb_texts.proofs.laws.printed_plain.Goals as goal

pub returns : goal.returns
returns c = printed_plain
