use Rattle.rb_script.proofs.TextLaws.{text_reads}
use Rattle.rb_script.proofs.laws.text_reads_back.Goals as goal

pub returns : goal.returns
returns c = text_reads
