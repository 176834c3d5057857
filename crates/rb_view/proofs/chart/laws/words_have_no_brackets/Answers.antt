use Rattle.rb_view.proofs.EscapeLaws.{no_brackets}
use Rattle.rb_view.proofs.chart.laws.words_have_no_brackets.Goals as goal

pub returns : goal.returns
returns c = no_brackets
