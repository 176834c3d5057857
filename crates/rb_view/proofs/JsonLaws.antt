-- The text of rows is a text of JSON with these rows for its value.
use Rattle.std.proofs.Common.{◌≡◌, ℕ, ◌+◌, ◌*◌, ◌%◌, ◌/◌, ◌<◌, Bool, true, false, List, [], ◌∷◌, ◌++◌, decimal, codes, refl, ap, sym, ◌∙◌, append_assoc, arith, inl, inr}
use Rattle.std.specs.Prelude.{◌&&◌, ◌==◌, if◌then◌else◌}
use Rattle.std.specs.List.{flat_map, list_all}
use Rattle.std.proofs.lemmas.Bool.{and_parts, ltb-true}
use Rattle.rb_text.specs.declared.json.Json.TheVariants.{Page}
use Rattle.rb_text.specs.Json.{is_no_mark, is_plain, numbered, in_page}
use Rattle.rb_view.specs.Json.{is_unescaped, IsNumbered, IsChar, AreChars, IsString, IsFurther, AreFurther, IsCell, IsRow, AreRows, is_byte, cell_has_bytes, has_bytes}
use Rattle.rb_view.specs.Rows.{PlainCell, number, text, Row, cell_text, row_text, next_text, rows_text}

-- ---- texts

by_number : (b : ℕ) → b < 256 → IsNumbered b (numbered b)
by_number b lt = record {
  thousands = 0;
  hundreds = 0;
  tens = b / 16 % 16;
  ones = b % 16;
  digits = (omega arith, omega arith, omega arith, omega arith);
  value = omega (arith, lt);
  parts = refl;
}

char_by : (t : Bool) (b : ℕ) → is_plain Page b ≡ t → b < 256 → IsChar b (if t then b ∷ [] else numbered b)
char_by true b h lt = inl ((and_parts (is_unescaped b) (is_no_mark b) h).0, refl)
char_by false b h lt = inr (by_number b lt)

chars_are : (bytes : List ℕ) → list_all is_byte bytes ≡ true → AreChars bytes (flat_map in_page bytes)
chars_are [] h = refl
chars_are (b ∷ bytes) h =
    let both = and_parts (is_byte b) (list_all is_byte bytes) h in
    record { front = in_page b; back = flat_map in_page bytes; parts = refl; first = char_by (is_plain Page b) b refl (ltb-true b 256 both.0); rest = chars_are bytes both.1 }

string_is : (bytes : List ℕ) → list_all is_byte bytes ≡ true → IsString bytes (34 ∷ (flat_map in_page bytes ++ 34 ∷ []))
string_is bytes h = record { inside = flat_map in_page bytes; parts = refl; are = chars_are bytes h }

-- ---- rows

cell_is : (c : PlainCell) → cell_has_bytes c ≡ true → IsFurther IsCell c (cell_text c)
cell_is (number n) h = record { space = []; value = decimal n; parts = refl; blank = refl; is = refl }
cell_is (text bytes) h = record { space = []; value = 34 ∷ (flat_map in_page bytes ++ 34 ∷ []); parts = refl; blank = refl; is = string_is bytes h }

cells_are : (cs : List PlainCell) → list_all cell_has_bytes cs ≡ true → AreFurther IsCell cs (flat_map cell_text cs)
cells_are [] h = refl
cells_are (c ∷ cs) h =
    let both = and_parts (cell_has_bytes c) (list_all cell_has_bytes cs) h in
    record { front = cell_text c; back = flat_map cell_text cs; parts = refl; first = cell_is c both.0; rest = cells_are cs both.1 }

row_is : (r : Row) → has_bytes r ≡ true → IsRow r (row_text r)
row_is r h =
    let both = and_parts (list_all is_byte r.name) (list_all cell_has_bytes r.cells) h in
    record {
      front = 34 ∷ (flat_map in_page r.name ++ 34 ∷ []);
      back = flat_map cell_text r.cells;
      parts = refl;
      first = string_is r.name both.0;
      rest = cells_are r.cells both.1;
    }

next_is : (r : Row) → has_bytes r ≡ true → IsFurther IsRow r (next_text r)
unfolding next_text
next_is r h = record { space = 10 ∷ []; value = row_text r; parts = refl; blank = refl; is = row_is r h }

next_are : (rs : List Row) → list_all has_bytes rs ≡ true → AreFurther IsRow rs (flat_map next_text rs)
next_are [] h = refl
next_are (r ∷ rs) h =
    let both = and_parts (has_bytes r) (list_all has_bytes rs) h in
    record { front = next_text r; back = flat_map next_text rs; parts = refl; first = next_is r both.0; rest = next_are rs both.1 }

pub rows_are : (first : Row) (rest : List Row) → list_all has_bytes (first ∷ rest) ≡ true → AreRows first rest (rows_text first rest)
rows_are first rest h =
    let both = and_parts (has_bytes first) (list_all has_bytes rest) h in
    let closed = codes "]" in
    let more = flat_map next_text rest in
    record {
      rows = 91 ∷ (row_text first ++ (more ++ closed));
      space = 10 ∷ [];
      parts = ap (λ (l : List ℕ). 91 ∷ (row_text first ++ l)) (sym (append_assoc more closed (10 ∷ []))) ∙ ap (λ (l : List ℕ). 91 ∷ l) (sym (append_assoc (row_text first) (more ++ closed) (10 ∷ [])));
      are = record { front = row_text first; back = more; parts = refl; first = row_is first both.0; rest = next_are rest both.1 };
      blank = refl;
    }
