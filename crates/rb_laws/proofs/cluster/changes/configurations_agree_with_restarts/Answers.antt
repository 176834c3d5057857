use Rattle.rb_laws.proofs.ConfigRestarts.{config_is_applied, configs_same}
use Rattle.rb_laws.proofs.cluster.changes.configurations_agree_with_restarts.Goals as goal

pub returns-clause-applied : goal.returns-clause-applied
returns-clause-applied c = λ chosen s os k n net at. config_is_applied chosen s os k n net.starts net.proper net.before at

pub returns-clause-same : goal.returns-clause-same
returns-clause-same c = λ chosen s earlier later j k n m net at there same. configs_same chosen s earlier later j k n m net.starts net.proper net.before net.since at there same
