-- A place of a text where words are offered: in a head, or in the input of a change of the configuration. (docs/SCRIPTS.md.)
use Rattle.std.specs.Prelude.{ℕ, ◌-◌, Bool, false, true, ◌||◌, if◌then◌else◌, List, [], codes, length, take, slice_index_or, slice_range, Option, Some, None}
use Rattle.std.specs.Str.{bytes_eq}
use Rattle.rb_script.specs.Lines.{Line, lines}
use Rattle.rb_lsp.specs.declared.document.position.Encoding.{Encoding}
use Rattle.rb_lsp.specs.declared.document.position.Position.{Position}
use Rattle.rb_lsp.specs.Places.{offset}
use Rattle.rb_editor.specs.declared.offers.part.Part.{Part}
use Rattle.rb_editor.specs.declared.offers.part.Part.TheVariants.{Lead, Input}
use Rattle.rb_editor.specs.Above.{begun_lines, behind_lines, head_in, line_above, line_begin}
use Rattle.rb_editor.specs.Ids.{takes_ids}
use Rattle.rb_editor.specs.Unfinished.{name_of, wanted_of}

-- The offset, and where the first line of its block begins; the head up to it, its lines joined, if it is in one; and its line up to it, if that is
-- input of `propose-conf-change`.
pub record PlainPlace : Type 0 where
  pub at : ℕ
  pub block : ℕ
  pub head : Option (List ℕ)
  pub change : Option (List ℕ)

-- the first of the last n lines
abbrev pub begun_line : List Line → ℕ → Line
begun_line ls n = slice_index_or ls (length ls - n) []

-- the line up to a place, which is of this part, below n lines of its block
abbrev pub change_in : Part → List Line → ℕ → Line → Option Line
change_in Input ls n front = if bytes_eq (name_of (begun_line ls n)) (codes "propose-conf-change") then Some front else None
change_in part ls n front = None

-- of a line that begins at an offset, below these lines
abbrev pub place_on : List ℕ → ℕ → ℕ → List Line → PlainPlace
place_on text at start ls = record {
  at = at;
  block = line_above (begun_lines Lead 0 ls) at text;
  head = head_in (behind_lines Lead [] ls) (slice_range text start at);
  change = change_in (behind_lines Lead [] ls).0 ls (begun_lines Lead 0 ls) (slice_range text start at);
}

abbrev pub place_at : ℕ → List ℕ → PlainPlace
place_at at text = place_on text at (line_begin at text) (lines (take (line_begin at text) text))

unfoldable pub completion_place : Encoding → List ℕ → Position → PlainPlace
completion_place encoding text p = place_at (offset encoding p text) text

abbrev pub head_takes_ids : Option (List ℕ) → Bool
head_takes_ids None = false
head_takes_ids (Some head) = takes_ids head (wanted_of head)

abbrev pub is_change : Option (List ℕ) → Bool
is_change None = false
is_change (Some front) = true

-- ids are offered there, or words with one
unfoldable pub place_takes_ids : PlainPlace → Bool
place_takes_ids p = head_takes_ids p.head || is_change p.change
