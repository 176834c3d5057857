use Rattle.rb_view.proofs.SentLaws.{sent_from}
use Rattle.rb_view.proofs.chart.laws.arrows_are_of_what_is_sent.Goals as goal

pub returns : goal.returns
returns c = sent_from
