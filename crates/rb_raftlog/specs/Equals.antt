-- Whether two lists of entries, or two snapshots, are the same, as `==` finds out.
use Rattle.std.specs.Prelude.{Bool, List}
use Rattle.std.specs.Cmp.{IsPartialEquivalence}
use Rattle.std.specs.Cmp.Lexicographic.{pointwise, lists_per}
use Rattle.rb_raftlog.specs.declared.entry.Entry.{Entry}
use Rattle.rb_raftlog.specs.declared.snapshot.Snapshot.{Snapshot}
use Rattle.rb_raftlog.specs.contracts.entry.EntryPartialEq.TheImpl as entry
use Rattle.rb_raftlog.specs.contracts.entry.EntryPartialEq.TheImpl.Laws as entry_laws
use Rattle.rb_raftlog.specs.contracts.snapshot.SnapshotPartialEq.TheImpl as snapshot
use Rattle.rb_raftlog.specs.contracts.snapshot.SnapshotPartialEq.TheImpl.Laws as snapshot_laws

abbrev pub same_lists : List Entry → List Entry → Bool
same_lists = pointwise entry.eq-value.it

pub lists_per_entry : IsPartialEquivalence same_lists
lists_per_entry = lists_per entry_laws.laws-law

abbrev pub same_snapshots : Snapshot → Snapshot → Bool
same_snapshots = snapshot.eq-value.it

pub snapshots_per : IsPartialEquivalence same_snapshots
snapshots_per = snapshot_laws.laws-law
