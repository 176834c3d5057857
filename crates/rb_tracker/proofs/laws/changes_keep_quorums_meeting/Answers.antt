use Rattle.rb_tracker.proofs.ChangeLaws.{simple_meets, enter_meets, leave_meets, changed_meets}
use Rattle.rb_tracker.proofs.laws.changes_keep_quorums_meeting.Goals as goal

pub returns-clause-simple : goal.returns-clause-simple
returns-clause-simple c = simple_meets

pub returns-clause-entering : goal.returns-clause-entering
returns-clause-entering c = enter_meets

pub returns-clause-leaving : goal.returns-clause-leaving
returns-clause-leaving c = leave_meets

pub returns-clause-each : goal.returns-clause-each
returns-clause-each c = changed_meets
