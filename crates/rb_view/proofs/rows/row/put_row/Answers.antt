use Rattle.std.proofs.Common.{◌≡◌, ℕ, List, ◌++◌, map, append_assoc}
use Rattle.std.specs.Prelude.{codes}
use Rattle.std.specs.List.{flat_map}
use Rattle.rb_view.specs.Rows.{PlainCell, before, cell_text, front_text, plain_cell, row, row_text}
use Rattle.rb_view.specs.declared.rows.row.RowPlace.{RowPlace}
use Rattle.rb_text.proofs.SentLaws.{and_then, no_more, writes_along}
use Rattle.rb_view.proofs.rows.row.put_row.Goals as goal

-- a row in the parts in which it goes out
parted : (place : RowPlace) (name : List ℕ) (cells : List PlainCell) → (before place ++ front_text name) ++ (flat_map cell_text cells ++ codes "]") ≡ before place ++ row_text (row name cells)
parted place name cells = append_assoc (before place) (front_text name) (flat_map cell_text cells ++ codes "]")

pub returns-in_err-put_front-clause-wrote : goal.returns-in_err-put_front-clause-wrote
returns-in_err-put_front-clause-wrote g c =
    writes_along _ _ _ _ _ (parted c.args.place c.args.name.now (map plain_cell c.args.cells.now)) (no_more _ _ _ _ _ c.from_residual.ensures.0 c.in_err-put_front.ensures.wrote)

pub returns-in_err-put_cells-clause-wrote : goal.returns-in_err-put_cells-clause-wrote
returns-in_err-put_cells-clause-wrote g c =
    writes_along _ _ _ _ _ (parted c.args.place c.args.name.now (map plain_cell c.args.cells.now))
    (and_then _ _ _ _ _ _ c.in_ok-put_front.ensures.wrote (no_more _ _ _ _ _ c.from_residual-in_err-put_cells.ensures.0 c.in_err-put_cells.ensures.wrote))

pub returns-clause-wrote : goal.returns-clause-wrote
returns-clause-wrote g c =
    writes_along _ _ _ _ _ (parted c.args.place c.args.name.now (map plain_cell c.args.cells.now))
    (and_then _ _ _ _ _ _ c.in_ok-put_front.ensures.wrote (and_then _ _ _ _ _ _ c.in_ok-put_cells.ensures.wrote c.put.ensures.wrote))
