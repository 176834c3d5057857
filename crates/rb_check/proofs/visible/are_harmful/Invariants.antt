-- No line so far is harmful.
use Rattle.std.proofs.Common.{◌≡◌, drop}
use Rattle.std.specs.List.{list_any}
use Rattle.rb_check.specs.Visible.{is_harmful}
use Rattle.rb_check.proofs.visible.are_harmful.Given as goal

abbrev pub invariant-loop-i : goal.invariant-loop-i
invariant-loop-i l = list_any is_harmful (drop l.i l.lines) ≡ list_any is_harmful l.lines
