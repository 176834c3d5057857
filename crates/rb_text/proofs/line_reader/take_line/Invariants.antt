-- What was taken went to the line.
use Rattle.std.proofs.Common.{◌≡◌, ◌++◌, ℕ, List, length}
use Rattle.rb_text.specs.Begun.{Holds}
use Rattle.rb_text.proofs.line_reader.take_line.Given as goal

abbrev pub invariant-loop-byte : goal.invariant-loop-byte
invariant-loop-byte l = (part : List ℕ) × (l.initial.unread ≡ part ++ l.unread)
    × ((begun : List ℕ) → Holds begun l.initial.line → Holds (begun ++ part) l.line)

abbrev pub decreases-loop-byte : goal.decreases-loop-byte
decreases-loop-byte l = length l.unread
