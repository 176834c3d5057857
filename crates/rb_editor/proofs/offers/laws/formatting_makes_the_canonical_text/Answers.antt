use Rattle.rb_editor.proofs.FormatLaws.{formats}
use Rattle.rb_editor.proofs.offers.laws.formatting_makes_the_canonical_text.Goals as goal

pub returns : goal.returns
returns c = formats
