-- What changes make of a text. (LSP 3.17, "TextDocumentContentChangeEvent".)
use Rattle.std.specs.Prelude.{◌≡◌, ℕ, List, ◌++◌, take, drop, max, true, length, Option, Some, None}
use Rattle.rb_lsp.specs.declared.document.position.Encoding.{Encoding}
use Rattle.rb_lsp.specs.declared.document.position.Range.{Range}
use Rattle.rb_lsp.specs.Places.{offset, position_of, is_place}

-- the text after the bytes between two offsets are replaced
abbrev pub spliced : ℕ → ℕ → List ℕ → List ℕ → List ℕ
spliced from to new text = take from text ++ new ++ drop to text

-- A part of the text is replaced. Where a range ends before it begins, nothing is taken out.
abbrev pub changed : Encoding → Range → List ℕ → List ℕ → List ℕ
changed encoding range new text =
    spliced (offset encoding range.start text) (max (offset encoding range.start text) (offset encoding range.end text)) new text

-- a part of the text is replaced, or all of it
abbrev pub changed_by : Encoding → Option Range → List ℕ → List ℕ → List ℕ
changed_by encoding None new text = new
changed_by encoding (Some range) new text = changed encoding range new text

-- the range between the end of `before` and the end of `old`
abbrev pub range_of : Encoding → List ℕ → List ℕ → List ℕ → Range
range_of encoding before old text = record { start = position_of encoding (length before) text; end = position_of encoding (length (before ++ old)) text }

-- A part of a text is replaced by what is handed in at its range: the law of a change, for parts that begin and end at places.
abbrev pub ReplacesPart : Type 0
ReplacesPart = (encoding : Encoding) (before old after new : List ℕ)
    → is_place (length before) (before ++ old ++ after) ≡ true → is_place (length (before ++ old)) (before ++ old ++ after) ≡ true
    → changed encoding (range_of encoding before old (before ++ old ++ after)) new (before ++ old ++ after) ≡ before ++ new ++ after

-- A place and its position say the same.
abbrev pub PlacesReturn : Type 0
PlacesReturn = (encoding : Encoding) (k : ℕ) (text : List ℕ) → is_place k text ≡ true → offset encoding (position_of encoding k text) text ≡ k
