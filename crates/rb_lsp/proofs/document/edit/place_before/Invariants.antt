-- The place goes down.
use Rattle.std.proofs.Common.{◌≡◌, ◌≤◌}
use Rattle.rb_lsp.specs.Edits.{place_before}
use Rattle.rb_lsp.proofs.document.edit.place_before.Given as goal

abbrev pub invariant-loop-place : goal.invariant-loop-place
invariant-loop-place l = record { before : l.place ≤ l.at; same : place_before l.place l.text ≡ place_before l.at l.text }

abbrev pub decreases-loop-place : goal.decreases-loop-place
decreases-loop-place l = l.place
