use Rattle.std.proofs.Common.{◌≡◌, ◌∙◌, List, [], ◌∷◌, ◌++◌, map, ap, refl, sym}
use Rattle.std.specs.List.{flat_map}
use Rattle.std.proofs.lemmas.List.Concat.{flat_map-append}
use Rattle.rb_texts.specs.declared.form.EventPiece.{EventPiece}
use Rattle.rb_texts.specs.declared.form.EventShown.{EventShown}
use Rattle.rb_texts.specs.EventForms.{PlainPiece, plain_piece, plain_pieces}
use Rattle.rb_view.specs.EventRows.{given_text, piece_cells, value_cells}
use Rattle.rb_view.specs.Rows.{cell_text}
use Rattle.rb_text.proofs.SentLaws.{writes_along}
use Rattle.rb_view.proofs.rows.event.put_values.Goals as goal

-- the texts of the pieces are those of their cells
all_text : (ps : List EventPiece) → flat_map given_text ps ≡ flat_map cell_text (flat_map piece_cells (map plain_piece ps))
all_text [] = refl
all_text (p ∷ ps) =
    ap (λ l. given_text p ++ l) (all_text ps) ∙ sym (flat_map-append cell_text (piece_cells (plain_piece p)) (flat_map piece_cells (map plain_piece ps)))

pub returns-in-Values-clause-wrote : goal.returns-in-Values-clause-wrote
returns-in-Values-clause-wrote g c =
    writes_along _ _ _ _ _
    (all_text c.as_slice.result.now ∙ ap (λ (l : List PlainPiece). flat_map cell_text (flat_map piece_cells l)) c.as_slice.ensures
    ∙ ap (λ (s : EventShown). flat_map cell_text (value_cells s (plain_pieces c.args.pieces.now))) (sym c.in-Values.is))
    c.put_each.ensures.wrote
