-- Scripts as plain data, and their canonical text. (This project's profile of the datadriven format.)
use Rattle.std.specs.Prelude.{ℕ, Bool, ◌||◌, if◌then◌else◌, List, [], ◌∷◌, ◌++◌}
use Rattle.std.specs.List.{list_any, flat_map}
use Rattle.rb_script.specs.Lines.{Line, text_of}
use Rattle.rb_script.specs.Marks.{is_blank, is_rule, rule}

pub record PlainBlock : Type 0 where
  pub lead : List Line
  pub head : List Line
  pub input : List Line
  pub expected : List Line

pub record PlainScript : Type 0 where
  pub blocks : List PlainBlock
  pub tail : List Line

-- whether only the double form can show these lines
abbrev pub needs_double : List Line → Bool
needs_double expected = list_any (λ line. is_blank line || is_rule line) expected

abbrev pub shown : List Line → List Line
shown expected = if needs_double expected then rule ∷ expected ++ rule ∷ rule ∷ [] else expected

abbrev pub block_lines : PlainBlock → List Line
block_lines b = b.lead ++ (b.head ++ (b.input ++ rule ∷ (shown b.expected ++ [] ∷ [])))

abbrev pub script_lines : PlainScript → List Line
script_lines s = flat_map block_lines s.blocks ++ s.tail

abbrev pub block_text : PlainBlock → List ℕ
block_text b = text_of (block_lines b)

-- the lines between an input and the expected lines in their form, and those after these
abbrev pub opening : Bool → List Line
opening double = if double then rule ∷ rule ∷ [] else rule ∷ []

abbrev pub closing : Bool → List Line
closing double = if double then rule ∷ rule ∷ [] ∷ [] else [] ∷ []

unfoldable pub text : PlainScript → List ℕ
text s = text_of (script_lines s)

-- the block with these lines in place of its expectation
abbrev pub expecting : PlainBlock → List Line → PlainBlock
expecting b expected = record { lead = b.lead; head = b.head; input = b.input; expected = expected }

-- each block with its output in place of its expectation
unfoldable pub all_expecting : List PlainBlock → List (List Line) → List PlainBlock
all_expecting [] outputs = []
all_expecting (b ∷ bs) [] = []
all_expecting (b ∷ bs) (output ∷ outputs) = expecting b output ∷ all_expecting bs outputs

-- the script with the outputs in place of its expectations
abbrev pub with_outputs : PlainScript → List (List Line) → PlainScript
with_outputs s outputs = record { blocks = all_expecting s.blocks outputs; tail = s.tail }
