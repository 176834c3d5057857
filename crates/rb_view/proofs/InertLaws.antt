-- No byte of a text is a mark of a page, or past ASCII.
use Rattle.std.proofs.Common.{◌≡◌, ℕ, ◌+◌, ◌≤◌, ◌*◌, Bool, true, false, List, [], ◌∷◌, ◌++◌, length, decimal, codes, refl, ap, arith}
use Rattle.std.specs.Prelude.{not, ◌&&◌, ◌==◌, nat_le, if◌then◌else◌}
use Rattle.std.specs.List.{flat_map, list_all}
use Rattle.std.proofs.lemmas.Bool.{and_from, and_parts, le-leb, leb-true, ne_eqb}
use Rattle.std.proofs.lemmas.List.{length-append}
use Rattle.rb_text.specs.declared.json.Json.TheVariants.{Page}
use Rattle.rb_text.specs.Json.{is_no_mark, is_plain, numbered, in_page}
use Rattle.rb_text.proofs.JsonLaws.{text_of}
use Rattle.rb_view.specs.Escapes.{is_inert}
use Rattle.rb_view.specs.Rows.{PlainCell, number, text, Row, cell_text, front_text, row_text, next_text, rows_text}
use Rattle.rb_texts.proofs.KindLaws.{decimal_of, flat_of, joined_of}

-- ---- bytes

-- a number that is not k, by the test
other : (b k : ℕ) → (b ≡ k → ⊥) → not (b == k) ≡ true
other b k differs = ap not (ne_eqb b k differs)

-- a byte from 48 to 57 is inert, and so is one from 63 to 127
figure : (b : ℕ) → 48 ≤ b → b ≤ 57 → is_inert b ≡ true
figure b low high =
    and_from (is_no_mark b) (nat_le b 127)
    (and_from (not (b == 60) && not (b == 62)) (not (b == 38))
    (and_from (not (b == 60)) (not (b == 62)) (other b 60 (λ e. omega (arith, e, high))) (other b 62 (λ e. omega (arith, e, high)))) (other b 38 (λ e. omega (arith, e, low))))
    (le-leb b 127 (omega (arith, high)))

letter : (b : ℕ) → 63 ≤ b → b ≤ 127 → is_inert b ≡ true
letter b low high =
    and_from (is_no_mark b) (nat_le b 127)
    (and_from (not (b == 60) && not (b == 62)) (not (b == 38))
    (and_from (not (b == 60)) (not (b == 62)) (other b 60 (λ e. omega (arith, e, low))) (other b 62 (λ e. omega (arith, e, low)))) (other b 38 (λ e. omega (arith, e, low))))
    (le-leb b 127 high)

-- so is one that stands for itself
plain_inert : (b : ℕ) → is_plain Page b ≡ true → is_inert b ≡ true
plain_inert b h =
    let no_mark = and_parts (nat_le 32 b && nat_le b 126 && not (b == 34) && not (b == 92)) (is_no_mark b) h in
    let no_backslash = and_parts (nat_le 32 b && nat_le b 126 && not (b == 34)) (not (b == 92)) no_mark.0 in
    let no_quote = and_parts (nat_le 32 b && nat_le b 126) (not (b == 34)) no_backslash.0 in
    let within = and_parts (nat_le 32 b) (nat_le b 126) no_quote.0 in
    and_from (is_no_mark b) (nat_le b 127) no_mark.1 (le-leb b 127 (omega (arith, leb-true b 126 within.1)))

-- ---- texts

-- two inert texts make one
joined : (a b : List ℕ) → list_all is_inert a ≡ true → list_all is_inert b ≡ true → list_all is_inert (a ++ b) ≡ true
joined a b p q = joined_of is_inert a b p q

all_escaped_inert : (bytes : List ℕ) → list_all is_inert (flat_map in_page bytes) ≡ true
all_escaped_inert bytes = text_of is_inert Page plain_inert figure (λ b low high. letter b (omega (arith, low)) (omega (arith, high))) bytes

-- ---- numbers

decimal_inert : (n : ℕ) → list_all is_inert (decimal n) ≡ true
decimal_inert n = decimal_of is_inert (λ d lt. figure (48 + d) (omega arith) (omega (arith, lt))) n

-- ---- rows

cell_inert : (c : PlainCell) → list_all is_inert (cell_text c) ≡ true
cell_inert (number n) = joined (codes ",") (decimal n) refl (decimal_inert n)
cell_inert (text bytes) =
    joined (codes ",\"") (flat_map in_page bytes ++ codes "\"") refl (joined (flat_map in_page bytes) (codes "\"") (all_escaped_inert bytes) refl)

cells_inert : (cs : List PlainCell) → list_all is_inert (flat_map cell_text cs) ≡ true
cells_inert cs = flat_of is_inert cell_text cell_inert cs

row_inert : (r : Row) → list_all is_inert (row_text r) ≡ true
row_inert r =
    joined (front_text r.name) (flat_map cell_text r.cells ++ codes "]")
    (joined (codes "[\"") (flat_map in_page r.name ++ codes "\"") refl (joined (flat_map in_page r.name) (codes "\"") (all_escaped_inert r.name) refl))
    (joined (flat_map cell_text r.cells) (codes "]") (cells_inert r.cells) refl)

next_inert : (rs : List Row) → list_all is_inert (flat_map next_text rs) ≡ true
unfolding next_text
next_inert rs = flat_of is_inert next_text (λ r. joined (codes ",\n") (row_text r) refl (row_inert r)) rs

-- so is the text of all rows
pub rows_inert : (first : Row) (rest : List Row) → list_all is_inert (rows_text first rest) ≡ true
rows_inert first rest =
    joined (codes "[") (row_text first ++ (flat_map next_text rest ++ codes "]\n")) refl
    (joined (row_text first) (flat_map next_text rest ++ codes "]\n") (row_inert first) (joined (flat_map next_text rest) (codes "]\n") (next_inert rest) refl))

-- ---- how long

escaped_short : (t : Bool) (b : ℕ) → length (if t then b ∷ [] else numbered b) ≤ 6
escaped_short true b = omega arith
escaped_short false b = omega arith

-- a text takes at most six bytes for each of its own
pub texts_short : (bytes : List ℕ) → length (flat_map in_page bytes) ≤ 6 * length bytes
texts_short [] = omega arith
texts_short (b ∷ bytes) = omega (arith, length-append (in_page b) (flat_map in_page bytes), escaped_short (is_plain Page b) b, texts_short bytes)
