-- The bytes of the value so far, and those that are left.
use Rattle.std.proofs.Common.{◌≡◌, ◌≤◌, drop}
use Rattle.std.specs.Prelude.{slice_range}
use Rattle.rb_editor.specs.Unfinished.{has_piece, is_listed}
use Rattle.rb_editor.proofs.offers.unfinished.is_listed.Given as goal

abbrev pub invariant-loop-i : goal.invariant-loop-i
invariant-loop-i l = record {
  from : l.from ≤ l.i;
  same : has_piece l.word (slice_range l.bytes l.from l.i) (drop l.i l.bytes) ≡ is_listed l.word l.bytes;
}
