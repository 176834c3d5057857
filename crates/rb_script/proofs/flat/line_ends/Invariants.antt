-- The ends so far and of the lines that are left, whose text is what is left, and how long the text is.
use Rattle.std.proofs.Common.{◌≡◌, ◌+◌, ◌++◌, length}
use Rattle.rb_script.specs.Lines.{lines, text_of}
use Rattle.rb_script.specs.Flat.{ends_of}
use Rattle.rb_script.proofs.flat.line_ends.Given as goal

abbrev pub invariant-loop-feed : goal.invariant-loop-feed
invariant-loop-feed l = record {
  ends : l.ends.items ++ ends_of l.end (lines l.rest) ≡ ends_of 0 (lines l.bytes);
  clean : text_of (lines l.rest) ≡ l.rest;
  total : l.end + length (text_of (lines l.rest)) ≡ length (text_of (lines l.bytes));
}

abbrev pub decreases-loop-feed : goal.decreases-loop-feed
decreases-loop-feed l = length l.rest
