use Rattle.std.proofs.Common.{sym}
use Rattle.std.proofs.lemmas.List.Folds.{flat_map-map}
use Rattle.rb_view.specs.Rows.{cell_text, plain_cell}
use Rattle.rb_text.proofs.SentLaws.{writes_along}
use Rattle.rb_view.proofs.rows.row.put_cells.Goals as goal

pub returns-clause-wrote : goal.returns-clause-wrote
returns-clause-wrote g c = writes_along _ _ _ _ _ (sym (flat_map-map cell_text plain_cell c.args.cells.now)) c.put_pieces.ensures.wrote
