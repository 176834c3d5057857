use Rattle.std.proofs.Common.{ap, sym, ◌∙◌}
use Rattle.rb_tracker.specs.Changes.{entering}
use Rattle.rb_tracker.specs.declared.config.Config.{Config}
use Rattle.rb_tracker.proofs.ChangeLaws.{simple_ok, enter_ok, leave_ok, done_keeps, changed_is}
use Rattle.rb_tracker.proofs.laws.changes_keep_configurations.Goals as goal

pub returns-clause-apart : goal.returns-clause-apart
returns-clause-apart c = changed_is

pub returns-clause-simple : goal.returns-clause-simple
returns-clause-simple c = λ old new words e. (simple_ok old new words e).some

pub returns-clause-entering : goal.returns-clause-entering
returns-clause-entering c = λ old new auto words e. (enter_ok old new auto words e).some

pub returns-clause-old_voters : goal.returns-clause-old_voters
returns-clause-old_voters c = λ old new auto words e. ap (λ (x : Config). x.outgoing) (sym (enter_ok old new auto words e).is) ∙ (done_keeps (entering old auto) words).0

pub returns-clause-leaving : goal.returns-clause-leaving
returns-clause-leaving c = λ old new e. ap (λ (x : Config). x.incoming) (sym (leave_ok old new e))
