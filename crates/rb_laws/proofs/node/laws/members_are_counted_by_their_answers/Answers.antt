use Rattle.std.proofs.lemmas.List.Elements.{All-nil}
use Rattle.rb_raftlog.specs.Log.{last}
use Rattle.rb_node.specs.Node.{started}
use Rattle.rb_calls.specs.Matches.{IsOwnAnswer}
use Rattle.rb_laws.proofs.CountLaws.{run_owns, run_rises}
use Rattle.rb_laws.proofs.node.laws.members_are_counted_by_their_answers.Goals as goal

pub returns-clause-started : goal.returns-clause-started
returns-clause-started c = λ id start options. All-nil (IsOwnAnswer (started id start options) (last (started id start options).log))

pub returns-clause-own : goal.returns-clause-own
returns-clause-own c = run_owns

pub returns-clause-rises : goal.returns-clause-rises
returns-clause-rises c = λ cs t id sound views members answers other. run_rises cs t id (record { sound = sound; views = views; members = members; answers = answers }) other
