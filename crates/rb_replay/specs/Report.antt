-- The mismatches of a script, and the report. (This project's.)
use Rattle.std.specs.Prelude.{ℕ, ◌+◌, Bool, if◌then◌else◌, List, [], ◌∷◌, ◌++◌, length, map, codes, decimal}
use Rattle.std.specs.List.{flat_map}
use Rattle.std.specs.Option.{unwrap_or, option_map}
use Rattle.std.specs.Str.{bytes_eq}
use Rattle.std.specs.Cmp.Lexicographic.{pointwise}
use Rattle.rb_script.specs.Lines.{Line, text_of}
use Rattle.rb_script.specs.Script.{PlainBlock, PlainScript, text, with_outputs}
use Rattle.rb_replay.specs.Run.{outputs, at_place, output_at}

-- the lines are the same
abbrev pub same_lines : List Line → List Line → Bool
same_lines = pointwise bytes_eq

-- the places, starting at `place`, where the output differs from the expectation
abbrev pub differing : ℕ → List PlainBlock → List (List Line) → List ℕ
differing place [] os = []
differing place (b ∷ bs) [] = []
differing place (b ∷ bs) (o ∷ os) =
    if same_lines b.expected o then differing (place + 1) bs os else place ∷ differing (place + 1) bs os

abbrev pub mismatches : PlainScript → List ℕ
mismatches s = differing 1 s.blocks (outputs s)

-- the script with its outputs in place of its expectations, as text
unfoldable pub rewritten : PlainScript → List ℕ
rewritten s = text (with_outputs s (outputs s))

-- each line after a mark
abbrev pub marked : List ℕ → List Line → List Line
marked mark ls = map (λ line. mark ++ line) ls

abbrev pub mismatch_line : ℕ → Line
mismatch_line k = codes "mismatch " ++ decimal k

-- the expectation of the directive at place k
abbrev pub expected_at : PlainScript → ℕ → List Line
expected_at s k = unwrap_or (option_map (λ b. b.expected) (at_place s.blocks k)) []

-- the report of the mismatch at place k
abbrev pub mismatch_lines : PlainScript → ℕ → List Line
mismatch_lines s k =
    mismatch_line k ∷ (marked (codes "- ") (expected_at s k) ++ marked (codes "+ ") (unwrap_or (output_at s k) []))

abbrev pub total_line : ℕ → ℕ → Line
total_line directives mismatches = decimal directives ++ codes " directives, " ++ decimal mismatches ++ codes " mismatches"

abbrev pub report_lines : PlainScript → List Line
report_lines s =
    flat_map (mismatch_lines s) (mismatches s) ++ total_line (length s.blocks) (length (mismatches s)) ∷ []

unfoldable pub report : PlainScript → List ℕ
report s = text_of (report_lines s)
