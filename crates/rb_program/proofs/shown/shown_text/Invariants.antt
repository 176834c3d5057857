-- The lines above the rest are shown. The rest gets shorter.
use Rattle.std.proofs.Common.{length, string_bytes}
use denote.Shadow.{shadow}
use denote.Text.{Utf8}
use Rattle.rb_program.proofs.ShownLaws.{ShownSoFar}
use Rattle.rb_program.proofs.shown.shown_text.Given as goal

abbrev pub invariant-loop-line : goal.invariant-loop-line
invariant-loop-line l = shadow (Utf8 l.rest) × ShownSoFar l.text l.rest (string_bytes l.shown)

abbrev pub decreases-loop-line : goal.decreases-loop-line
decreases-loop-line l = length l.rest
