-- The links so far lead to the target.
use Rattle.std.proofs.Common.{string_bytes}
use Rattle.rb_files.specs.Entries.{LeadsBy}
use Rattle.rb_files.proofs.entry.followed.Given as goal

abbrev pub invariant-loop-links : goal.invariant-loop-links
invariant-loop-links g l = LeadsBy l.links l.path (string_bytes l.target)
