use Rattle.rb_raftlog.proofs.AnswerLaws.{matched-says, committed-says, refused-says, below-says}
use Rattle.rb_raftlog.proofs.laws.answers_say_what_is_held.Goals as goal

pub returns-clause-matched : goal.returns-clause-matched
returns-clause-matched c = matched-says

pub returns-clause-committed : goal.returns-clause-committed
returns-clause-committed c = committed-says

pub returns-clause-refused : goal.returns-clause-refused
returns-clause-refused c = refused-says

pub returns-clause-below : goal.returns-clause-below
returns-clause-below c = below-says
