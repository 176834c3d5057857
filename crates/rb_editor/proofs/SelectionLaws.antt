-- Pieces of lines, and spans, one after another.
use Rattle.std.proofs.Common.{◌≡◌, ◌∙◌, ℕ, ◌+◌, ◌<◌, ◌≤◌, Bool, true, false, List, [], ◌∷◌, ◌++◌, length, drop, get_or, Option, Some, None, ap, sym, append_assoc, append-nil}
use Rattle.std.specs.Prelude.{codes, if◌then◌else◌}
use Rattle.std.proofs.lemmas.List.{at_drop_all, at_drop_more}
use Rattle.rb_lsp.specs.declared.document.position.Encoding.{Encoding}
use Rattle.rb_editor.specs.declared.actions.piece.PieceKind.{PieceKind}
use Rattle.rb_editor.specs.declared.actions.piece.OffsetSpan.{OffsetSpan}
use Rattle.rb_editor.specs.declared.offers.block_lines.BlockLines.{BlockLines}
use Rattle.rb_editor.specs.Selections.{block_with, closings, ends, fronts, has_line, inside_after, inside_of, last_after, nested, piece_end, piece_start, span_text, taken}

-- ---- pieces

pub inside_more : (inside : Bool) (bytes : List ℕ) (i d : ℕ) → i < length bytes → inside_of (inside_after inside (get_or bytes i d)) (drop (i + 1) bytes) ≡ inside_of inside (drop i bytes)
inside_more inside bytes i d within = sym (at_drop_more (inside_of inside) bytes i d within)

pub inside_all : (inside : Bool) (bytes : List ℕ) (i : ℕ) → length bytes ≤ i → inside_of inside (drop i bytes) ≡ inside
inside_all inside bytes i past = at_drop_all (inside_of inside) bytes i past

pub start_more : (kind : PieceKind) (start : ℕ) (inside : Bool) (bytes : List ℕ) (i d : ℕ) → i < length bytes
    → piece_start kind (if ends kind inside (get_or bytes i d) then i + 1 else start) (i + 1) (inside_after inside (get_or bytes i d)) (drop (i + 1) bytes) ≡ piece_start kind start i inside (drop i bytes)
start_more kind start inside bytes i d within = sym (at_drop_more (piece_start kind start i inside) bytes i d within)

pub start_all : (kind : PieceKind) (start : ℕ) (inside : Bool) (bytes : List ℕ) (i : ℕ) → length bytes ≤ i → piece_start kind start i inside (drop i bytes) ≡ start
start_all kind start inside bytes i past = at_drop_all (piece_start kind start i inside) bytes i past

end_next : (kind : PieceKind) (inside is : Bool) (line : List ℕ) (i d : ℕ) → i < length line → ends kind inside (get_or line i d) ≡ is
    → piece_end kind i inside (drop i line) ≡ (if is then i else piece_end kind (i + 1) (inside_after inside (get_or line i d)) (drop (i + 1) line))
end_next kind inside is line i d within same =
    at_drop_more (piece_end kind i inside) line i d within
    ∙ ap (λ (t : Bool). if t then i else piece_end kind (i + 1) (inside_after inside (get_or line i d)) (drop (i + 1) line)) same

pub end_here : (kind : PieceKind) (inside : Bool) (line : List ℕ) (i d : ℕ) → i < length line → ends kind inside (get_or line i d) ≡ true → piece_end kind i inside (drop i line) ≡ i
end_here kind inside line i d within is = end_next kind inside true line i d within is

pub end_more : (kind : PieceKind) (inside : Bool) (line : List ℕ) (i d : ℕ) → i < length line → ends kind inside (get_or line i d) ≡ false
    → piece_end kind (i + 1) (inside_after inside (get_or line i d)) (drop (i + 1) line) ≡ piece_end kind i inside (drop i line)
end_more kind inside line i d within is = sym (end_next kind inside false line i d within is)

pub end_all : (kind : PieceKind) (inside : Bool) (line : List ℕ) (i : ℕ) → length line ≤ i → piece_end kind i inside (drop i line) ≡ i
end_all kind inside line i past = at_drop_all (piece_end kind i inside) line i past

-- ---- blocks

with_next : (n : ℕ) (is : Bool) (bs : List BlockLines) (i : ℕ) (d : BlockLines) → i < length bs → has_line n (get_or bs i d) ≡ is
    → block_with n (drop i bs) ≡ (if is then Some (get_or bs i d) else block_with n (drop (i + 1) bs))
with_next n is bs i d within same =
    at_drop_more (block_with n) bs i d within ∙ ap (λ (t : Bool). if t then Some (get_or bs i d) else block_with n (drop (i + 1) bs)) same

pub with_here : (n : ℕ) (bs : List BlockLines) (i : ℕ) (d : BlockLines) → i < length bs → has_line n (get_or bs i d) ≡ true → block_with n (drop i bs) ≡ Some (get_or bs i d)
with_here n bs i d within is = with_next n true bs i d within is

pub with_past : (n : ℕ) (bs : List BlockLines) (i : ℕ) (d : BlockLines) → i < length bs → has_line n (get_or bs i d) ≡ false → block_with n (drop (i + 1) bs) ≡ block_with n (drop i bs)
with_past n bs i d within is = sym (with_next n false bs i d within is)

pub with_none : (n : ℕ) (bs : List BlockLines) (i : ℕ) → length bs ≤ i → block_with n (drop i bs) ≡ None
with_none n bs i past = at_drop_all (block_with n) bs i past

-- ---- spans

pub nested_more : (last next : Option OffsetSpan) (ss : List OffsetSpan) (i : ℕ) (d : OffsetSpan) (had has all : List OffsetSpan) → i < length ss → next ≡ last_after last (get_or ss i d) → has ≡ had ++ taken last (get_or ss i d)
    → had ++ nested last (drop i ss) ≡ all → has ++ nested next (drop (i + 1) ss) ≡ all
nested_more last next ss i d had has all within is made far =
    let rest = nested (last_after last (get_or ss i d)) (drop (i + 1) ss) in
    ap (λ (l : Option OffsetSpan). has ++ nested l (drop (i + 1) ss)) is
    ∙ ap (λ (l : List OffsetSpan). l ++ rest) made
    ∙ append_assoc had (taken last (get_or ss i d)) rest
    ∙ sym (at_drop_more (λ (xs : List OffsetSpan). had ++ nested last xs) ss i d within)
    ∙ far

pub nested_all : (last : Option OffsetSpan) (ss : List OffsetSpan) (i : ℕ) (has all : List OffsetSpan) → length ss ≤ i → has ++ nested last (drop i ss) ≡ all → has ≡ all
nested_all last ss i has all past far = sym (append-nil has) ∙ sym (at_drop_all (λ (xs : List OffsetSpan). has ++ nested last xs) ss i past) ∙ far

-- ---- as they are sent

pub fronts_more : (encoding : Encoding) (text : List ℕ) (ss : List OffsetSpan) (i : ℕ) (d : OffsetSpan) (lead had led has all : List ℕ) → i < length ss → led ≡ had ++ lead → has ≡ led ++ span_text encoding text (get_or ss i d)
    → had ++ fronts encoding text lead (drop i ss) ≡ all → has ++ fronts encoding text (codes ",\"parent\":") (drop (i + 1) ss) ≡ all
fronts_more encoding text ss i d lead had led has all within leads made far =
    let rest = fronts encoding text (codes ",\"parent\":") (drop (i + 1) ss) in
    let here = span_text encoding text (get_or ss i d) in
    ap (λ (l : List ℕ). l ++ rest) (made ∙ ap (λ (l : List ℕ). l ++ here) leads)
    ∙ append_assoc (had ++ lead) here rest
    ∙ append_assoc had lead (here ++ rest)
    ∙ sym (at_drop_more (λ (xs : List OffsetSpan). had ++ fronts encoding text lead xs) ss i d within)
    ∙ far

pub fronts_all : (encoding : Encoding) (text : List ℕ) (ss : List OffsetSpan) (i : ℕ) (lead has all : List ℕ) → length ss ≤ i → has ++ fronts encoding text lead (drop i ss) ≡ all → has ≡ all
fronts_all encoding text ss i lead has all past far = sym (append-nil has) ∙ sym (at_drop_all (λ (xs : List OffsetSpan). has ++ fronts encoding text lead xs) ss i past) ∙ far

nowhere : OffsetSpan
nowhere = record { from = 0; to = 0 }

pub closings_more : (ss : List OffsetSpan) (i : ℕ) (had has all : List ℕ) → i < length ss → has ≡ had ++ 125 ∷ [] → had ++ closings (drop i ss) ≡ all → has ++ closings (drop (i + 1) ss) ≡ all
closings_more ss i had has all within made far =
    ap (λ (l : List ℕ). l ++ closings (drop (i + 1) ss)) made ∙ append_assoc had (125 ∷ []) (closings (drop (i + 1) ss)) ∙ sym (at_drop_more (λ (xs : List OffsetSpan). had ++ closings xs) ss i nowhere within) ∙ far

pub closings_all : (ss : List OffsetSpan) (i : ℕ) (has all : List ℕ) → length ss ≤ i → has ++ closings (drop i ss) ≡ all → has ≡ all
closings_all ss i has all past far = sym (append-nil has) ∙ sym (at_drop_all (λ (xs : List OffsetSpan). has ++ closings xs) ss i past) ∙ far
