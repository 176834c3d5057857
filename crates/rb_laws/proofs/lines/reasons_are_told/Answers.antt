use Rattle.rb_laws.proofs.ReasonLaws.{reason_there, ignored_told, ignored_said, refused_told, refused_said, they_give_way}
use Rattle.rb_laws.proofs.lines.reasons_are_told.Goals as goal

pub returns-clause-some : goal.returns-clause-some
returns-clause-some c = λ e. reason_there e.kind

pub returns-clause-ignored : goal.returns-clause-ignored
returns-clause-ignored c = λ why. (ignored_told why, ignored_said why)

pub returns-clause-refused : goal.returns-clause-refused
returns-clause-refused c = λ why. (refused_told why, refused_said why)

pub returns-clause-gives_way : goal.returns-clause-gives_way
returns-clause-gives_way c = λ last es. they_give_way last es
