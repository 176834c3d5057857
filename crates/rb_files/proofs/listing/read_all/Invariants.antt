-- The bytes so far are those that the folder gave.
use Rattle.std.specs.Io.KnownBytes.{Consumes}
use Rattle.rb_files.proofs.listing.read_all.Given as goal

abbrev pub invariant-loop : goal.invariant-loop
invariant-loop g l = Consumes (g.D.Read.remaining l.fn.folder) (g.D.Read.remaining l.folder) l.bytes.items
