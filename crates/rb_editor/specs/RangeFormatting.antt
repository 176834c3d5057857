-- The canonical text of the directives in a range, as one edit of what differs. (docs/SCRIPTS.md, "Canonical text"; LSP 3.17, "Document Range
-- Formatting Request". The script stays the same.)
use Rattle.std.specs.Prelude.{ℕ, ◌&&◌, Bool, nat_le, nat_lt, if◌then◌else◌, List, [], ◌∷◌, ◌++◌, codes, take, drop, length, Option, Some, None}
use Rattle.rb_script.specs.Script.{PlainScript, text as canonical_text}
use Rattle.rb_lsp.specs.declared.document.position.Encoding.{Encoding}
use Rattle.rb_lsp.specs.declared.document.position.Range.{Range}
use Rattle.rb_lsp.specs.Tables.{feed_start}
use Rattle.rb_editor.specs.declared.offers.block_lines.BlockLines.{BlockLines}
use Rattle.rb_editor.specs.BlockLines.{blocks_of, script_of}
use Rattle.rb_editor.specs.Formatting.{edits, formatted, has_canonical}
use Rattle.rb_editor.specs.Layouts.{line_at}

-- the block has a line from `first` to `last`
abbrev pub is_touched : ℕ → ℕ → BlockLines → Bool
is_touched first last b = nat_le b.from last && nat_lt first b.end

-- the first line of the first block, and the line after the last
abbrev pub with_block : Option (ℕ × ℕ) → BlockLines → Option (ℕ × ℕ)
with_block None b = Some (b.from, b.end)
with_block (Some found) b = Some (found.0, b.end)

-- after a block
abbrev pub after_block : ℕ → ℕ → Option (ℕ × ℕ) → BlockLines → Option (ℕ × ℕ)
after_block first last found b = if is_touched first last b then with_block found b else found

-- those of the blocks that have a line from `first` to `last`, and of blocks above
unfoldable pub touched : ℕ → ℕ → Option (ℕ × ℕ) → List BlockLines → Option (ℕ × ℕ)
touched first last found [] = found
touched first last found (b ∷ bs) = touched first last (after_block first last found b) bs

-- a text with another part between these fronts and the rest, without the empty line at the end of the part
abbrev pub with_part : List ℕ → List ℕ → List ℕ → PlainScript → List ℕ
with_part text front upto part = front ++ (formatted (canonical_text part) ++ drop (length upto) text)

-- what makes it, if it is the same script
abbrev pub if_same : Encoding → List ℕ → PlainScript → List ℕ → List ℕ
if_same encoding text s new = if has_canonical (canonical_text s) (script_of new) then edits encoding text new else codes "[]"

abbrev pub of_part : Encoding → List ℕ → PlainScript → List ℕ → List ℕ → Option PlainScript → List ℕ
of_part encoding text s front upto None = codes "[]"
of_part encoding text s front upto (Some part) = if_same encoding text s (with_part text front upto part)

-- the text above line n
abbrev pub lines_before : ℕ → List ℕ → List ℕ
lines_before n text = take (feed_start n text) text

-- of the text that is below `front`, up to the end of `upto`
abbrev pub between : Encoding → List ℕ → PlainScript → List ℕ → List ℕ → List ℕ
between encoding text s front upto = of_part encoding text s front upto (script_of (drop (length front) upto))

abbrev pub of_lines : Encoding → List ℕ → PlainScript → Option (ℕ × ℕ) → List ℕ
of_lines encoding text s None = codes "[]"
of_lines encoding text s (Some found) = between encoding text s (lines_before found.0 (lines_before found.1 text)) (lines_before found.1 text)

abbrev pub of_script : Encoding → Range → List ℕ → Option PlainScript → List ℕ
of_script encoding range text None = codes "[]"
of_script encoding range text (Some s) = of_lines encoding text s (touched (line_at encoding range.start text) (line_at encoding range.end text) None (blocks_of text))

-- the edits that format the directives in a range
unfoldable pub range_formatting : Encoding → Range → List ℕ → List ℕ
range_formatting encoding range text = of_script encoding range text (script_of text)
