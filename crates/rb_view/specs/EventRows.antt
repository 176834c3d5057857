-- What a node shows, as rows: the name of each is that of its event's form. (docs/FORMATS.md; the events are this project's.)
use Rattle.std.specs.Prelude.{ℕ, if◌then◌else◌, List, [], ◌∷◌}
use Rattle.std.specs.List.{flat_map}
use Rattle.rb_message.specs.declared.event.Event.{Event}
use Rattle.rb_texts.specs.declared.form.EventPiece.{EventPiece}
use Rattle.rb_texts.specs.declared.form.EventShown.{EventShown}
use Rattle.rb_texts.specs.declared.form.EventShown.TheVariants as shown
use Rattle.rb_texts.specs.Configs.{config_text}
use Rattle.rb_texts.specs.EventForms.{PlainPiece, PlainForm, words, numbered, placed, ranged, named, answered, configured, plain_piece, event_form, is_hidden}
use Rattle.rb_view.specs.MessageRows.{flag}
use Rattle.rb_view.specs.Rows.{PlainCell, number, text, Row, row, cell_text}

-- the value of a piece; a term and an index are two cells, and so are two indexes
abbrev pub piece_cells : PlainPiece → List PlainCell
piece_cells (words before) = []
piece_cells (numbered before n) = number n ∷ []
piece_cells (placed before term index) = number term ∷ number index ∷ []
piece_cells (ranged before first last) = number first ∷ number last ∷ []
piece_cells (named before name) = text name ∷ []
piece_cells (answered before granted) = number (flag granted) ∷ []
piece_cells (configured before c) = text (config_text c) ∷ []

-- the cells after the node
abbrev pub value_cells : EventShown → List PlainPiece → List PlainCell
value_cells shown.Values pieces = flat_map piece_cells pieces
value_cells _ pieces = []

abbrev pub form_rows : ℕ → PlainForm → List Row
form_rows id form = if is_hidden form.shown then [] else row form.name (number id ∷ value_cells form.shown form.pieces) ∷ []

unfoldable pub event_rows : Event → List Row
event_rows e = form_rows e.id (event_form e)

-- a piece as it is given, in the text of a row
abbrev pub given_text : EventPiece → List ℕ
given_text piece = flat_map cell_text (piece_cells (plain_piece piece))
