use Rattle.rb_laws.proofs.ActivityLaws.{sender_marked, others_stay, look_unmarks, ticks_leave}
use Rattle.rb_laws.proofs.node.activity.members_are_active_by_their_answers.Goals as goal

pub returns-clause-answers : goal.returns-clause-answers
returns-clause-answers c = λ t m at. sender_marked t m at

pub returns-clause-others : goal.returns-clause-others
returns-clause-others c = λ t m id. others_stay t m id

pub returns-clause-look : goal.returns-clause-look
returns-clause-look c = λ t id. look_unmarks t id

pub returns-clause-tick : goal.returns-clause-tick
returns-clause-tick c = λ t id. ticks_leave t id
