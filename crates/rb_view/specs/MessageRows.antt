-- Messages as rows. (docs/FORMATS.md; the types are named as in etcd raft's documentation, "MessageType".)
use Rattle.std.specs.Prelude.{ℕ, Bool, if◌then◌else◌, codes, List, [], ◌∷◌}
use Rattle.std.specs.List.{flat_map}
use Rattle.rb_vocab.specs.MessageTypes.{type_text}
use Rattle.rb_message.specs.declared.kind.MessageKind.{MessageKind}
use Rattle.rb_message.specs.declared.message.Message.{Message}
use Rattle.rb_message.specs.Messages.{type_of}
use Rattle.rb_texts.specs.declared.item.Verb.{Verb}
use Rattle.rb_texts.specs.declared.item.Verb.TheVariants as verbs
use Rattle.rb_texts.specs.declared.fields.MessageField.{MessageField}
use Rattle.rb_texts.specs.Entries.{body_text}
use Rattle.rb_texts.specs.Messages.{PlainField, named, place, answer, mark, refused, body, fields_of, plain_field}
use Rattle.rb_view.specs.Rows.{PlainCell, number, text, Row, cell_text, row}

-- 1 for yes, 0 for no
abbrev pub flag : Bool → ℕ
flag b = if b then 1 else 0

-- names aren't shown; whether an append is refused is
abbrev pub field_cells : PlainField → List PlainCell
field_cells (named name n) = number n ∷ []
field_cells (place name term index) = number term ∷ number index ∷ []
field_cells (answer granted) = number (flag granted) ∷ []
field_cells (mark shown applies) = number (flag applies) ∷ []
field_cells (refused is) = number (flag is) ∷ []
field_cells (body b) = text (body_text b) ∷ []

abbrev pub field_text : MessageField → List ℕ
field_text f = flat_map cell_text (flat_map field_cells (plain_field f))

-- what a message says, after its type and its term
unfoldable pub said : MessageKind → List PlainCell
said kind = flat_map field_cells (fields_of kind)

abbrev pub message_row : List ℕ → Message → Row
message_row name m = row name (number m.from ∷ number m.to ∷ text (type_text (type_of m.kind)) ∷ number m.term ∷ said m.kind)

-- the row of a message that moves
abbrev pub verb_name : Verb → List ℕ
verb_name verbs.Deliver = codes "deliver"
verb_name verbs.Drop = codes "drop"
verb_name verbs.Queue = codes "queue"
verb_name verbs.NoRoomFor = codes "no-room"
