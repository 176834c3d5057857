use Rattle.rb_raftlog.proofs.PlaceLaws.{replaced-durable, durable-falls, durable-entries, own-last, own-held}
use Rattle.rb_raftlog.proofs.laws.durable_is_what_was_written.Goals as goal

pub returns-clause-replaced : goal.returns-clause-replaced
returns-clause-replaced c = replaced-durable

pub returns-clause-falls : goal.returns-clause-falls
returns-clause-falls c = durable-falls

pub returns-clause-entries : goal.returns-clause-entries
returns-clause-entries c = durable-entries

pub returns-clause-own_last : goal.returns-clause-own_last
returns-clause-own_last c = own-last

pub returns-clause-own_held : goal.returns-clause-own_held
returns-clause-own_held c = own-held
