use Rattle.std.proofs.Common.{[]}
use Rattle.rb_script.specs.Joined.{joined}
use Rattle.rb_script.proofs.LinePartLaws.{continues_sound, continues_complete, joined_next, joined_last}
use Rattle.rb_script.proofs.laws.heads_are_joined.Goals as goal

pub returns-clause-asks : goal.returns-clause-asks
returns-clause-asks c = λ line. (continues_sound line, continues_complete line)

pub returns-clause-next : goal.returns-clause-next
returns-clause-next c = joined_next

pub returns-clause-nothing : goal.returns-clause-nothing
unfolding joined
returns-clause-nothing c = λ body blanks. joined_next body blanks []

pub returns-clause-last : goal.returns-clause-last
returns-clause-last c = joined_last
