-- What can be selected around a place: the word, the argument, the line, the part of the block, the block, and the whole text, each if it contains the one
-- before and is larger. (LSP 3.17, "Selection Range Request": "parent" contains the range.)
use Rattle.std.specs.Prelude.{ℕ, ◌+◌, ◌-◌, ◌==◌, Bool, true, false, ◌&&◌, ◌||◌, not, min, nat_le, nat_lt, if◌then◌else◌, List, [], ◌∷◌, ◌++◌, codes, count_by, drop, length, slice_index_or, take, Option, Some, None}
use Rattle.rb_script.specs.Lines.{Line, lines}
use Rattle.rb_script.specs.Marks.{is_space}
use Rattle.rb_lsp.specs.declared.document.position.Encoding.{Encoding}
use Rattle.rb_lsp.specs.declared.document.position.Position.{Position}
use Rattle.rb_lsp.specs.Places.{offset, position_of}
use Rattle.rb_lsp.specs.Tables.{feed_start}
use Rattle.rb_editor.specs.declared.actions.piece.PieceKind.{PieceKind}
use Rattle.rb_editor.specs.declared.actions.piece.PieceKind.TheVariants.{Word, Argument}
use Rattle.rb_editor.specs.declared.actions.piece.OffsetSpan.{OffsetSpan}
use Rattle.rb_editor.specs.declared.offers.block_lines.BlockLines.{BlockLines}
use Rattle.rb_editor.specs.BlockLines.{blocks_of}
use Rattle.rb_editor.specs.Corrections.{ends_word}
use Rattle.rb_editor.specs.Served.{served}
use Rattle.rb_editor.specs.Texts.{range_member}

-- ---- a piece of a line

-- the byte ends a piece: of arguments it is a blank that isn't in parentheses
abbrev pub ends : PieceKind → Bool → ℕ → Bool
ends Word inside b = ends_word b
ends Argument inside b = is_space b && not inside

-- within parentheses after a byte
abbrev pub inside_after : Bool → ℕ → Bool
inside_after inside b = if b == 40 then true else (if b == 41 then false else inside)

-- where the piece begins that these bytes end in, of which `at` are before, and the last piece began at `start`
abbrev pub piece_start : PieceKind → ℕ → ℕ → Bool → List ℕ → ℕ
piece_start kind start at inside [] = start
piece_start kind start at inside (b ∷ bytes) = piece_start kind (if ends kind inside b then at + 1 else start) (at + 1) (inside_after inside b) bytes

-- within parentheses after bytes
abbrev pub inside_of : Bool → List ℕ → Bool
inside_of inside [] = inside
inside_of inside (b ∷ bytes) = inside_of (inside_after inside b) bytes

-- where a piece ends that goes on with these bytes, of which `at` are before
abbrev pub piece_end : PieceKind → ℕ → Bool → List ℕ → ℕ
piece_end kind at inside [] = at
piece_end kind at inside (b ∷ bytes) = if ends kind inside b then at else piece_end kind (at + 1) (inside_after inside b) bytes

abbrev pub span : ℕ → ℕ → OffsetSpan
span from to = record { from = from; to = to }

-- the piece of a line around a column, where the line begins at an offset of its text
abbrev pub piece_span : PieceKind → ℕ → ℕ → Line → OffsetSpan
piece_span kind begin column line =
    span (begin + piece_start kind 0 0 false (take column line)) (begin + piece_end kind column (inside_of false (take column line)) (drop column line))

-- ---- lines

abbrev pub lines_span : List ℕ → ℕ → ℕ → OffsetSpan
lines_span text first behind = span (feed_start first text) (feed_start behind text)

abbrev pub has_line : ℕ → BlockLines → Bool
has_line n b = nat_le b.from n && nat_lt n b.end

-- the block that has a line
abbrev pub block_with : ℕ → List BlockLines → Option BlockLines
block_with n [] = None
block_with n (b ∷ bs) = if has_line n b then Some b else block_with n bs

-- its head, what is between the head and its output, or its output
abbrev pub part_span : List ℕ → ℕ → BlockLines → OffsetSpan
part_span text n b = if nat_lt n b.body then lines_span text b.from b.body else (if nat_lt n b.below then lines_span text b.body b.below else lines_span text b.below b.end)

abbrev pub block_spans : List ℕ → ℕ → Option BlockLines → List OffsetSpan
block_spans text n None = []
block_spans text n (Some b) = part_span text n b ∷ lines_span text b.from b.end ∷ []

-- ---- around a place

-- of line n, which begins at an offset
abbrev pub line_spans : ℕ → ℕ → Line → List OffsetSpan
line_spans at begin line =
    piece_span Word begin (min (at - begin) (length line)) line ∷ piece_span Argument begin (min (at - begin) (length line)) line ∷ span begin (begin + length line) ∷ []

abbrev pub spans_on : List ℕ → ℕ → ℕ → List OffsetSpan
spans_on text at n =
    line_spans at (feed_start n text) (slice_index_or (lines text) n []) ++ (block_spans text n (block_with n (blocks_of (served text))) ++ span 0 (length text) ∷ [])

-- how many lines end before an offset
abbrev pub lines_above : ℕ → List ℕ → ℕ
lines_above at text = count_by (λ b. b == 10) (take at text)

-- a span contains another, and is larger
abbrev pub is_around : OffsetSpan → OffsetSpan → Bool
is_around inner s = (nat_le s.from inner.from && nat_le inner.to s.to) && (nat_lt s.from inner.from || nat_lt inner.to s.to)

-- a span is taken if it is larger than the last one that was, and contains it; the first if it isn't empty
abbrev pub is_next : Option OffsetSpan → OffsetSpan → Bool
is_next None s = nat_lt s.from s.to
is_next (Some inner) s = is_around inner s

abbrev pub taken : Option OffsetSpan → OffsetSpan → List OffsetSpan
taken last s = if is_next last s then s ∷ [] else []

abbrev pub last_after : Option OffsetSpan → OffsetSpan → Option OffsetSpan
last_after last s = if is_next last s then Some s else last

abbrev pub nested : Option OffsetSpan → List OffsetSpan → List OffsetSpan
nested last [] = []
nested last (s ∷ ss) = taken last s ++ nested (last_after last s) ss

unfoldable pub spans_at : List ℕ → ℕ → List OffsetSpan
spans_at text at = nested None (spans_on text at (lines_above at text))

-- ---- as they are sent

-- the beginning of the range of a span
unfoldable pub span_text : Encoding → List ℕ → OffsetSpan → List ℕ
span_text encoding text s = range_member (position_of encoding (min s.from (length text)) text) (position_of encoding (min s.to (length text)) text)

-- each with the next as its parent; `lead` is before the first
abbrev pub fronts : Encoding → List ℕ → List ℕ → List OffsetSpan → List ℕ
fronts encoding text lead [] = []
fronts encoding text lead (s ∷ ss) = lead ++ (span_text encoding text s ++ fronts encoding text (codes ",\"parent\":") ss)

-- their ends
abbrev pub closings : List OffsetSpan → List ℕ
closings [] = []
closings (s ∷ ss) = 125 ∷ closings ss

abbrev pub chain_text : Encoding → List ℕ → List OffsetSpan → List ℕ
chain_text encoding text ss = fronts encoding text [] ss ++ closings ss

-- the whole text, if there is nothing else
abbrev pub or_whole : List ℕ → List OffsetSpan → List OffsetSpan
or_whole text [] = span 0 (length text) ∷ []
or_whole text (s ∷ ss) = s ∷ ss

unfoldable pub selection : Encoding → Position → List ℕ → List ℕ
selection encoding position text = chain_text encoding text (or_whole text (spans_at text (offset encoding position text)))
