use Rattle.rb_laws.proofs.TimerLaws.{leader_heard, vote_restarts, look_restarts}
use Rattle.rb_laws.proofs.node.rules.timers_start_again.Goals as goal

pub returns-clause-leader : goal.returns-clause-leader
returns-clause-leader c = λ t m leaders reached steps_down. (leader_heard t m leaders reached steps_down).timer

pub returns-clause-vote : goal.returns-clause-vote
returns-clause-vote c = λ t m last_term last_index transfer. vote_restarts t m last_term last_index transfer

pub returns-clause-look : goal.returns-clause-look
returns-clause-look c = λ t leads due. look_restarts t leads due
