use Rattle.rb_laws.proofs.KeptMatches.{matches_stay}
use Rattle.rb_laws.proofs.MatchLaws.{stepped_rests}
use Rattle.rb_laws.proofs.node.laws.matches_rest_on_answers.Goals as goal

pub returns-clause-rests : goal.returns-clause-rests
returns-clause-rests c = λ t m id. stepped_rests t m id

pub returns-clause-stays : goal.returns-clause-stays
returns-clause-stays c = λ t m id leads still same. matches_stay t m id leads still same
