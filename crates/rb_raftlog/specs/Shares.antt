-- Entries that are shared by a pointer.
use Rattle.std.specs.Prelude.{List, [], Option, Some, None}
use Rattle.std.specs.declared.rc.Rc.{Rc}
use Rattle.std.specs.declared.alloc.Global.{Global}
use Rattle.rb_raftlog.specs.declared.entry.Entry.{Entry}

-- without a pointer there are no entries
abbrev pub entries_behind : Option (Rc (List Entry) Global) → List Entry
entries_behind None = []
entries_behind (Some pointer) = pointer.value
