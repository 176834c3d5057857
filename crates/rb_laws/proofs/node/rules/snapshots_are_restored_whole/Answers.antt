use Rattle.rb_laws.proofs.RestoreLaws.{restored_or_kept, news_restored, snapshot_answered, unsaved_is_ready}
use Rattle.rb_laws.proofs.node.rules.snapshots_are_restored_whole.Goals as goal

pub returns-clause-all : goal.returns-clause-all
returns-clause-all c = λ t m s. restored_or_kept t m s

pub returns-clause-news : goal.returns-clause-news
returns-clause-news c = λ t m s. news_restored t m s

pub returns-clause-answered : goal.returns-clause-answered
returns-clause-answered c = λ t m s. snapshot_answered t m s

pub returns-clause-handed : goal.returns-clause-handed
returns-clause-handed c = λ n. unsaved_is_ready n
