use Rattle.rb_raftlog.proofs.AppendLaws.{before-new, none-new}
use Rattle.rb_raftlog.proofs.laws.held_entries_stay.Goals as goal

pub returns-clause-before : goal.returns-clause-before
returns-clause-before c = before-new

pub returns-clause-none : goal.returns-clause-none
returns-clause-none c = none-new
