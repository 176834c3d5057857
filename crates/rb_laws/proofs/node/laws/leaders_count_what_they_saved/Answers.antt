use Rattle.std.proofs.Common.{arith}
use Rattle.rb_laws.proofs.CountLaws.{run_counts}
use Rattle.rb_laws.proofs.node.laws.leaders_count_what_they_saved.Goals as goal

pub returns-clause-started : goal.returns-clause-started
returns-clause-started c = λ id start options. omega arith

pub returns-clause-run : goal.returns-clause-run
returns-clause-run c = λ cs t sound views members answers others counts. run_counts cs t (record { sound = sound; views = views; members = members; answers = answers }) others counts
