use Rattle.rb_laws.proofs.ScriptLaws.{may_be_added, may_be_compacted}
use Rattle.rb_laws.proofs.scripts.what_is_done_may_be_done.Goals as goal

pub returns-clause-added : goal.returns-clause-added
returns-clause-added c = λ asked k fine. may_be_added asked k fine

pub returns-clause-compacted : goal.returns-clause-compacted
returns-clause-compacted c = λ id index k n fine at. may_be_compacted id index k n fine at
