-- The place goes up.
use Rattle.std.proofs.Common.{◌≡◌, ◌≤◌, ◌-◌, length}
use Rattle.rb_lsp.specs.Edits.{place_behind}
use Rattle.rb_lsp.proofs.document.edit.place_behind.Given as goal

abbrev pub invariant-loop-place : goal.invariant-loop-place
invariant-loop-place l = record { behind : l.at ≤ l.place; within : l.place ≤ length l.text; same : place_behind l.place l.text ≡ place_behind l.at l.text }

abbrev pub decreases-loop-place : goal.decreases-loop-place
decreases-loop-place l = length l.text - l.place
