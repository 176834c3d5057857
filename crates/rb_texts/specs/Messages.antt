-- Messages as a line shows them. (The types are named as in etcd raft's documentation, "MessageType"; the texts are this project's.)
use Rattle.std.specs.Prelude.{ℕ, Bool, true, false, if◌then◌else◌, codes, decimal, List, [], ◌∷◌, ◌++◌, length}
use Rattle.std.specs.List.{flat_map}
use Rattle.rb_vocab.specs.MessageTypes.{type_text}
use Rattle.rb_raftlog.specs.declared.entry.Body.{Body}
use Rattle.rb_message.specs.declared.kind.MessageKind.{MessageKind}
use Rattle.rb_message.specs.declared.kind.MessageKind.TheVariants as kinds
use Rattle.rb_message.specs.declared.message.Message.{Message}
use Rattle.rb_message.specs.Appends.{PlainAppend}
use Rattle.rb_message.specs.Messages.{type_of, has_term}
use Rattle.rb_texts.specs.declared.fields.MessageField.{MessageField}
use Rattle.rb_texts.specs.declared.fields.MessageField.TheVariants as fields
use Rattle.rb_texts.specs.declared.item.Verb.{Verb}
use Rattle.rb_texts.specs.declared.item.Verb.TheVariants as verbs
use Rattle.rb_texts.specs.Entries.{place_text, body_text}

abbrev pub answer_text : Bool → List ℕ
answer_text granted = if granted then codes "granted" else codes "refused"

-- ---- fields

-- a number after its name, the term and the index of an entry, an answer, a text that applies or not, whether an append is refused, what a proposal brings
pub data PlainField : Type 0 where
  named : (name : List ℕ) → ℕ → PlainField
  place : (name : List ℕ) → (term index : ℕ) → PlainField
  answer : (granted : Bool) → PlainField
  mark : (text : List ℕ) → (applies : Bool) → PlainField
  refused : Bool → PlainField
  body : Body → PlainField

abbrev pub plain_field : MessageField → List PlainField
plain_field fields.Nothing = []
plain_field (fields.Number name n) = named name.now n ∷ []
plain_field (fields.Place name term index) = place name.now term index ∷ []
plain_field (fields.Answer granted) = answer granted ∷ []
plain_field (fields.Flag text applies) = mark text.now applies ∷ []
plain_field (fields.Refused is) = refused is ∷ []
plain_field (fields.Body b) = body b.now ∷ []

-- a candidate's last entry, and whether the lead was handed over to it
abbrev pub vote_fields : ℕ → ℕ → Bool → List PlainField
vote_fields last_term last_index transfer = place (codes " last=") last_term last_index ∷ mark (codes " transfer") transfer ∷ []

-- of an append's entries there is the count
abbrev pub append_fields : PlainAppend → List PlainField
append_fields a = place (codes " prev=") a.prev_term a.prev ∷ named (codes " commit=") a.commit ∷ named (codes " entries=") (length a.entries) ∷ []

-- other kinds have none
unfoldable pub fields_of : MessageKind → List PlainField
fields_of (kinds.Vote last_term last_index transfer) = vote_fields last_term last_index transfer
fields_of (kinds.PreVote last_term last_index) = vote_fields last_term last_index false
fields_of (kinds.VoteResponse granted) = answer granted ∷ []
fields_of (kinds.PreVoteResponse granted) = answer granted ∷ []
fields_of (kinds.Append append) = append_fields append
fields_of (kinds.AppendResponse matched) = refused false ∷ named (codes " match=") matched ∷ []
fields_of (kinds.AppendRefusal after hint) = refused true ∷ named (codes " refused=") after ∷ named (codes " hint=") hint ∷ []
fields_of (kinds.Heartbeat commit) = named (codes " commit=") commit ∷ []
fields_of (kinds.Snapshot s) = place (codes " snapshot=") s.term s.index ∷ []
fields_of (kinds.Proposal b) = body b ∷ []
fields_of (kinds.TransferLeader target) = named (codes " target=") target ∷ []
fields_of _ = []

-- ---- fields in a line

-- whether an append is refused is seen by the names of its other fields
abbrev pub field_text : PlainField → List ℕ
field_text (named name n) = name ++ decimal n
field_text (place name term index) = name ++ place_text term index
field_text (answer granted) = codes " " ++ answer_text granted
field_text (mark shown applies) = if applies then shown else []
field_text (refused is) = []
field_text (body b) = codes " " ++ body_text b

abbrev pub fields_text : List PlainField → List ℕ
fields_text fs = flat_map field_text fs

-- what a message says, after its type and its term
unfoldable pub kind_text : MessageKind → List ℕ
kind_text kind = fields_text (fields_of kind)

-- ---- messages

-- the term, but of a message that is of no term
abbrev pub term_text : Message → List ℕ
term_text m = if has_term m.kind then codes " term=" ++ decimal m.term else []

unfoldable pub message_text : Message → List ℕ
message_text m = decimal m.from ++ codes "->" ++ decimal m.to ++ codes " " ++ type_text (type_of m.kind) ++ term_text m ++ kind_text m.kind

-- how a message moves
abbrev pub verb_text : Verb → List ℕ
verb_text verbs.Deliver = codes "deliver "
verb_text verbs.Drop = codes "drop "
verb_text verbs.Queue = codes "queue "
verb_text verbs.NoRoomFor = codes "no room for "
