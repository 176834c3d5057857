use Rattle.rb_raftlog.proofs.AnswerLaws.{as_new}
use Rattle.rb_raftlog.proofs.laws.newer_is_by_term_and_length.Goals as goal

pub returns : goal.returns
returns c = as_new
