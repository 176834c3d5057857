use Rattle.rb_laws.proofs.AnswerLaws.{appends_answered, appends_match}
use Rattle.rb_laws.proofs.node.laws.answers_tell_what_is_held.Goals as goal

pub returns-clause-held : goal.returns-clause-held
returns-clause-held c = appends_answered

pub returns-clause-matching : goal.returns-clause-matching
returns-clause-matching c = appends_match
