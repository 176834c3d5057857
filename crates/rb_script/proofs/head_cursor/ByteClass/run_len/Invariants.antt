use Rattle.std.proofs.Common.{◌≡◌, true, take}
use Rattle.std.specs.List.{list_all}
use Rattle.rb_script.specs.ByteClasses.{is_of}
use Rattle.rb_script.proofs.head_cursor.ByteClass.run_len.Given as goal

abbrev pub invariant-loop-i : goal.invariant-loop-i
invariant-loop-i l = list_all (is_of l.self) (take l.i l.bytes) ≡ true
