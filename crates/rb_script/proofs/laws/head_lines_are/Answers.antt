use Rattle.rb_script.proofs.HeadLineLaws.{heads_stand, heads_ascend, heads_once}
use Rattle.rb_script.proofs.laws.head_lines_are.Goals as goal

pub returns-clause-stands : goal.returns-clause-stands
returns-clause-stands c = heads_stand

pub returns-clause-ascend : goal.returns-clause-ascend
returns-clause-ascend c = heads_ascend

pub returns-clause-count : goal.returns-clause-count
returns-clause-count c = λ ls bs ns h. h.count

pub returns-clause-once : goal.returns-clause-once
returns-clause-once c = heads_once
