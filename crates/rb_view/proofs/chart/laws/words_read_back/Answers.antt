use Rattle.rb_view.proofs.EscapeLaws.{read_back}
use Rattle.rb_view.proofs.chart.laws.words_read_back.Goals as goal

pub returns : goal.returns
returns c = read_back
