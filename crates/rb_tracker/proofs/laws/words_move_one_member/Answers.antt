use Rattle.rb_tracker.proofs.MoveLaws.{voter_moves, learner_moves, removed_moves}
use Rattle.rb_tracker.proofs.laws.words_move_one_member.Goals as goal

pub returns-clause-voter : goal.returns-clause-voter
returns-clause-voter c = voter_moves

pub returns-clause-learner : goal.returns-clause-learner
returns-clause-learner c = learner_moves

pub returns-clause-removed : goal.returns-clause-removed
returns-clause-removed c = removed_moves
