-- The actual output of a mismatch, at the lines that expect another. (This project's.)
use Rattle.std.specs.Prelude.{ℕ, ◌-◌, nat_le, if◌then◌else◌, List, ◌++◌, codes, decimal, length, take}
use Rattle.rb_script.specs.Lines.{Line, text_of}
use Rattle.rb_editor.specs.declared.offers.block_lines.BlockLines.{BlockLines}
use Rattle.rb_editor.specs.declared.actions.actual_output.TheConstants.{MAX_SHOWN}
use Rattle.rb_editor.specs.Diagnostics.{PlainActualOutput}

-- a text without its last byte, which is the end of its last line
abbrev pub without_end : List ℕ → List ℕ
without_end text = take (length text - 1) text

abbrev pub whole : List Line → List ℕ
whole output = without_end (text_of output)

-- the first lines, and how many more there are
abbrev pub cut_off : List Line → List ℕ
cut_off output = text_of (take MAX_SHOWN output) ++ (codes "and " ++ (decimal (length output - MAX_SHOWN) ++ codes " more"))

-- an output, as far as it is shown
unfoldable pub shown : List Line → List ℕ
shown output = if nat_le (length output) MAX_SHOWN then whole output else cut_off output

-- of a directive that has these lines
abbrev pub actual_output_of : BlockLines → List Line → PlainActualOutput
actual_output_of p output = record { first = p.below; behind = p.end; shown = shown output }
