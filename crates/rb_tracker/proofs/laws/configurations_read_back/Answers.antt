use Rattle.std.proofs.Common.{[], refl}
use Rattle.rb_tracker.proofs.SetLaws.{set_of_ascending, ascending_set_of}
use Rattle.rb_tracker.proofs.ChangeLaws.{has_union}
use Rattle.rb_tracker.proofs.laws.configurations_read_back.Goals as goal

pub returns-clause-back : goal.returns-clause-back
returns-clause-back c = λ d is.
    rw (set_of_ascending d.incoming is.incoming, set_of_ascending d.outgoing is.outgoing, set_of_ascending d.learners is.learners, set_of_ascending d.next is.next) refl

pub returns-clause-ascending : goal.returns-clause-ascending
returns-clause-ascending c = ascending_set_of

pub returns-clause-same : goal.returns-clause-same
returns-clause-same c = λ ids id. has_union [] ids id
