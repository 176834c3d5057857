use Rattle.std.proofs.Common.{arith}
use Rattle.rb_calls.proofs.CallLaws.{calls, runs}
use Rattle.rb_calls.proofs.nodes_stay_sound.Goals as goal

pub returns-clause-started : goal.returns-clause-started
returns-clause-started c = λ id start options. record { past_base = omega arith; is_durable = omega arith; within = omega arith; is_committed = omega arith; is_held = omega arith }

pub returns-clause-called : goal.returns-clause-called
returns-clause-called c = λ call t sound. ((calls call t).goes sound).ordered

pub returns-clause-run : goal.returns-clause-run
returns-clause-run c = λ cs t sound. ((runs cs t).goes sound).ordered
