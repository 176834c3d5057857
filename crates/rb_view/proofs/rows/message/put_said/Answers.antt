use Rattle.std.proofs.Common.{◌≡◌, ℕ, List, ◌++◌, map, ap, sym, ◌∙◌, append_assoc}
use Rattle.std.specs.Prelude.{codes}
use Rattle.std.specs.List.{flat_map}
use Rattle.std.proofs.lemmas.List.Concat.{flat_map-append}
use Rattle.rb_view.specs.MessageRows.{said}
use Rattle.rb_view.specs.Rows.{PlainCell, before, cell_text, front_text, next_text, plain_cell, row}
use Rattle.rb_view.specs.declared.rows.row.RowPlace.TheVariants.{Next}
use Rattle.rb_text.proofs.SentLaws.{and_then, no_more, writes_along}
use Rattle.rb_view.proofs.rows.message.put_said.Goals as goal

-- a row in the parts in which it goes out
parted : (name : List ℕ) (xs ys : List PlainCell) → (before Next ++ front_text name) ++ (flat_map cell_text xs ++ (flat_map cell_text ys ++ codes "]")) ≡ next_text (row name (xs ++ ys))
unfolding next_text
parted name xs ys =
    append_assoc (before Next) (front_text name) (flat_map cell_text xs ++ (flat_map cell_text ys ++ codes "]"))
    ∙ ap (λ (l : List ℕ). before Next ++ (front_text name ++ l)) (sym (append_assoc (flat_map cell_text xs) (flat_map cell_text ys) (codes "]")) ∙ ap (λ (l : List ℕ). l ++ codes "]") (sym (flat_map-append cell_text xs ys)))

pub returns-in_err-put_front-clause-wrote : goal.returns-in_err-put_front-clause-wrote
returns-in_err-put_front-clause-wrote g c =
    writes_along _ _ _ _ _ (parted c.args.name.now (map plain_cell c.args.cells.now) (said c.args.kind.now))
    (no_more _ _ _ _ _ c.from_residual.ensures.0 c.in_err-put_front.ensures.wrote)

pub returns-in_err-put_cells-clause-wrote : goal.returns-in_err-put_cells-clause-wrote
returns-in_err-put_cells-clause-wrote g c =
    writes_along _ _ _ _ _ (parted c.args.name.now (map plain_cell c.args.cells.now) (said c.args.kind.now))
    (and_then _ _ _ _ _ _ c.in_ok-put_front.ensures.wrote (no_more _ _ _ _ _ c.from_residual-in_err-put_cells.ensures.0 c.in_err-put_cells.ensures.wrote))

pub returns-in_err-put_kind-clause-wrote : goal.returns-in_err-put_kind-clause-wrote
returns-in_err-put_kind-clause-wrote g c =
    writes_along _ _ _ _ _ (parted c.args.name.now (map plain_cell c.args.cells.now) (said c.args.kind.now))
    (and_then _ _ _ _ _ _ c.in_ok-put_front.ensures.wrote (and_then _ _ _ _ _ _ c.in_ok-put_cells.ensures.wrote (no_more _ _ _ _ _ c.from_residual-in_err-put_kind.ensures.0 c.in_err-put_kind.ensures.wrote)))

pub returns-clause-wrote : goal.returns-clause-wrote
returns-clause-wrote g c =
    writes_along _ _ _ _ _ (parted c.args.name.now (map plain_cell c.args.cells.now) (said c.args.kind.now))
    (and_then _ _ _ _ _ _ c.in_ok-put_front.ensures.wrote (and_then _ _ _ _ _ _ c.in_ok-put_cells.ensures.wrote (and_then _ _ _ _ _ _ c.in_ok-put_kind.ensures.wrote c.put.ensures.wrote)))
