use Rattle.rb_laws.proofs.StateLaws.{hard_is, saved_is, save_is, apply_is}
use Rattle.rb_laws.proofs.node.rules.ready_is_the_state.Goals as goal

pub returns-clause-hard : goal.returns-clause-hard
returns-clause-hard c = λ n h. hard_is n h

pub returns-clause-saved : goal.returns-clause-saved
returns-clause-saved c = λ n. saved_is n

pub returns-clause-save : goal.returns-clause-save
returns-clause-save c = λ n k e. save_is n k e

pub returns-clause-apply : goal.returns-clause-apply
returns-clause-apply c = λ n k e. apply_is n k e
