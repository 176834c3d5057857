use Rattle.std.proofs.Common.{refl}
use Rattle.rb_laws.proofs.BroadcastLaws.{all_are_told}
use Rattle.rb_laws.proofs.SendingLaws.{entries_are_sent, snapshot_is_sent, probe_waits, first_views}
use Rattle.rb_laws.proofs.node.actions.members_are_sent_what_they_lack.Goals as goal

pub returns-clause-entries : goal.returns-clause-entries
returns-clause-entries c = λ n to view may reached. entries_are_sent n to view may reached

pub returns-clause-all : goal.returns-clause-all
returns-clause-all c = λ n to view may reached. all_are_told n to view may reached

pub returns-clause-snapshot : goal.returns-clause-snapshot
returns-clause-snapshot c = λ n to view may lacks. snapshot_is_sent n to view may lacks

pub returns-clause-waits : goal.returns-clause-waits
returns-clause-waits c = λ p last probes. probe_waits p last probes

pub returns-clause-awaits : goal.returns-clause-awaits
returns-clause-awaits c = λ p index. (refl, refl)

pub returns-clause-first : goal.returns-clause-first
returns-clause-first c = λ n k e is other. first_views n k e is other
