-- How long the text of rows is, and how many rows there are.
use Rattle.std.proofs.Common.{◌≡◌, ℕ, true, false, ◌+◌, ◌≤◌, List, [], ◌∷◌, ◌++◌, length, codes, refl, arith}
use Rattle.std.specs.Prelude.{if◌then◌else◌}
use Rattle.std.specs.List.{flat_map, sum_by}
use Rattle.std.proofs.lemmas.List.{length-append}
use Rattle.std.proofs.lemmas.List.Sums.{sum_by-cons}
use Rattle.rb_texts.specs.EventForms.{PlainForm, event_form, is_hidden}
use Rattle.rb_texts.specs.Items.{PlainItem}
use Rattle.rb_texts.specs.Items as items
use Rattle.rb_text.specs.Json.{in_page}
use Rattle.rb_view.specs.EventRows.{event_rows, form_rows, value_cells}
use Rattle.rb_view.specs.ItemRows.{item_rows}
use Rattle.rb_view.specs.Rows.{PlainCell, number, text, Row, row, cell_text, front_text, row_text, next_text, rows_text}
use Rattle.rb_view.specs.Sizes.{cell_size, row_size, count_of}
use Rattle.rb_view.proofs.InertLaws.{texts_short}

cell_short : (c : PlainCell) → length (cell_text c) ≤ cell_size c
cell_short (number n) = omega arith
cell_short (text bytes) = omega (arith, length-append (flat_map in_page bytes) (codes "\""), texts_short bytes)

cells_short : (cs : List PlainCell) → length (flat_map cell_text cs) ≤ sum_by cell_size cs
cells_short [] = omega arith
cells_short (c ∷ cs) = omega (arith, sum_by-cons cell_size c cs, length-append (cell_text c) (flat_map cell_text cs), cell_short c, cells_short cs)

row_short : (r : Row) → length (row_text r) + 2 ≤ row_size r
row_short r = omega (arith, length-append (front_text r.name) (flat_map cell_text r.cells ++ codes "]"), length-append (flat_map cell_text r.cells) (codes "]"), length-append (flat_map in_page r.name) (codes "\""), texts_short r.name, cells_short r.cells)

next_short : (rs : List Row) → length (flat_map next_text rs) ≤ sum_by row_size rs
unfolding next_text
next_short [] = omega arith
next_short (r ∷ rs) = omega (arith, sum_by-cons row_size r rs, length-append (next_text r) (flat_map next_text rs), row_short r, next_short rs)

pub rows_short : (first : Row) (rest : List Row) → length (rows_text first rest) ≤ 1 + sum_by row_size (first ∷ rest)
rows_short first rest = omega (arith, sum_by-cons row_size first rest, length-append (row_text first) (flat_map next_text rest ++ codes "]\n"), length-append (flat_map next_text rest) (codes "]\n"), row_short first, next_short rest)

form_counted : (id : ℕ) (f : PlainForm) → length (form_rows id f) ≡ (if is_hidden f.shown then 0 else 1)
form_counted id f =
    elim (is_hidden f.shown) as (λ b. length (if b then [] else row f.name (number id ∷ value_cells f.shown f.pieces) ∷ []) ≡ (if b then 0 else 1)) [ true ↦ refl | false ↦ refl ]

pub rows_counted : (item : PlainItem) → length (item_rows item) ≡ count_of item
unfolding item_rows event_rows
rows_counted items.nothing_else = refl
rows_counted (items.event e) = form_counted e.id (event_form e)
rows_counted item = refl
