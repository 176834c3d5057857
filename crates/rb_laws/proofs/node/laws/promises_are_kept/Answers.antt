use Rattle.std.proofs.lemmas.List.Elements.{All-nil}
use Rattle.rb_node.specs.Node.{started}
use Rattle.rb_laws.proofs.PromiseLaws.{Kept, NoYes, run_promises, one_vote}
use Rattle.rb_laws.proofs.node.laws.promises_are_kept.Goals as goal

pub returns-clause-started : goal.returns-clause-started
returns-clause-started c = λ id start options. record { kept = All-nil (Kept (started id start options)); none_sent = All-nil NoYes }

pub returns-clause-kept : goal.returns-clause-kept
returns-clause-kept c = λ cs t. (run_promises cs t).keeps

pub returns-clause-stays : goal.returns-clause-stays
returns-clause-stays c = λ cs t. (run_promises cs t).stays

pub returns-clause-once : goal.returns-clause-once
returns-clause-once c = λ cs t first second. one_vote cs t first second
