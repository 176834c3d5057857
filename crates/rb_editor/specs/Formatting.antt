-- The canonical text of a script without the empty line at its end, as one edit of what differs. (docs/SCRIPTS.md, "Canonical text"; LSP 3.17,
-- "TextEdit".)
use Rattle.std.specs.Prelude.{ℕ, ◌-◌, ◌==◌, Bool, false, ◌&&◌, if◌then◌else◌, List, ◌++◌, codes, length, nat_le, slice_index, take, Option, Some, None}
use Rattle.std.specs.List.{flat_map}
use Rattle.std.specs.Str.{bytes_eq}
use Rattle.rb_script.specs.Script.{PlainScript, text as canonical_text}
use Rattle.rb_text.specs.Json.{escaped}
use Rattle.rb_lsp.specs.declared.document.position.Encoding.{Encoding}
use Rattle.rb_lsp.specs.declared.document.position.Range.{Range}
use Rattle.rb_lsp.specs.Edits.{range_between, new_between}
use Rattle.rb_editor.specs.BlockLines.{script_of}
use Rattle.rb_editor.specs.Texts.{range_text}

-- an edit that replaces the text in a range, as a list
unfoldable pub text_edit : Range → List ℕ → List ℕ
text_edit range new = codes "[{\"range\":" ++ (range_text range.start range.end ++ (codes ",\"newText\":\"" ++ (flat_map escaped new ++ codes "\"}]")))

-- the text is a script with this canonical text
abbrev pub has_canonical : List ℕ → Option PlainScript → Bool
has_canonical canonical None = false
has_canonical canonical (Some s) = bytes_eq (canonical_text s) canonical

-- the last line of a text whose lines have ends is empty
abbrev pub ends_empty : List ℕ → Bool
ends_empty text = nat_le 2 (length text) && (slice_index text (length text - 2) == 10)

-- a text without its last byte
abbrev pub cut : List ℕ → List ℕ
cut text = take (length text - 1) text

-- the text stays the same script without the empty line at its end
abbrev pub can_be_cut : List ℕ → Bool
can_be_cut canonical = ends_empty canonical && has_canonical canonical (script_of (cut canonical))

-- a canonical text without the empty line at its end, if it is the same script so
unfoldable pub formatted : List ℕ → List ℕ
formatted canonical = if can_be_cut canonical then cut canonical else canonical

-- what differs between two texts, if something does
abbrev pub edits : Encoding → List ℕ → List ℕ → List ℕ
edits encoding old new = if bytes_eq old new then codes "[]" else text_edit (range_between encoding old new) (new_between old new)

abbrev pub of_script : Encoding → List ℕ → Option PlainScript → List ℕ
of_script encoding text None = codes "[]"
of_script encoding text (Some s) = edits encoding text (formatted (canonical_text s))

-- the edits that format a text
unfoldable pub formatting : Encoding → List ℕ → List ℕ
formatting encoding text = of_script encoding text (script_of text)
