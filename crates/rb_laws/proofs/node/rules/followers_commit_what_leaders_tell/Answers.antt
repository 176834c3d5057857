use Rattle.rb_laws.proofs.LearnLaws.{commit_learned}
use Rattle.rb_laws.proofs.node.rules.followers_commit_what_leaders_tell.Goals as goal

pub returns : goal.returns
returns c = λ t m. commit_learned t m
