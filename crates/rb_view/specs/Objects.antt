-- What happens, as an object of JSON. (docs/FORMATS.md; RFC 8259. The row is that of a page, and the text that of `run`.)
use Rattle.std.specs.Prelude.{ℕ, zero, suc, codes, decimal, List, [], ◌∷◌, ◌++◌, drop, Option, Some, None}
use Rattle.std.specs.List.{flat_map}
use Rattle.rb_vocab.specs.MessageTypes.{type_text}
use Rattle.rb_message.specs.declared.message.Message.{Message}
use Rattle.rb_message.specs.Messages.{type_of}
use Rattle.rb_text.specs.Json.{in_page}
use Rattle.rb_texts.specs.declared.item.Verb.{Verb}
use Rattle.rb_texts.specs.declared.item.Verb.TheVariants as verbs
use Rattle.rb_texts.specs.declared.reason.Reason.{Reason}
use Rattle.rb_texts.specs.Items.{PlainItem}
use Rattle.rb_texts.specs.Items as items
use Rattle.rb_texts.specs.Reasons.{reason_front, reason_of, reason_text}
use Rattle.rb_texts.specs.Texts as lines
use Rattle.rb_view.specs.ItemRows as rows

-- ---- what an item is of

-- the node at which a message moves; a message that is lost in flight is at none
abbrev pub moved_node : Verb → Message → ℕ
moved_node verbs.Deliver m = m.to
moved_node verbs.Drop m = 0
moved_node verbs.Queue m = m.from
moved_node verbs.NoRoomFor m = m.from

-- the node that an item is of, where this node's ready is shown; 0 for none
unfoldable pub node_of : ℕ → PlainItem → ℕ
node_of ready (items.ready id) = id
node_of ready (items.hard_state hard) = ready
node_of ready (items.snapshot term index) = ready
node_of ready (items.save index e) = ready
node_of ready (items.apply index e) = ready
node_of ready (items.send m) = m.from
node_of ready (items.nothing_ready id) = id
node_of ready (items.moved verb m) = moved_node verb m
node_of ready (items.raft_state n) = n.id
node_of ready (items.event e) = e.id
node_of ready item = 0

-- the message that an item is about
abbrev pub message_of : PlainItem → Option Message
message_of (items.send m) = Some m
message_of (items.moved verb m) = Some m
message_of item = None

-- ---- members, each with the comma before it

abbrev pub number_member : List ℕ → ℕ → List ℕ
number_member name n = codes ",\"" ++ name ++ codes "\":" ++ decimal n

abbrev pub text_member : List ℕ → List ℕ → List ℕ
text_member name bytes = codes ",\"" ++ name ++ codes "\":\"" ++ flat_map in_page bytes ++ codes "\""

-- the node, if there is one
abbrev pub node_member : ℕ → List ℕ
node_member zero = []
node_member (suc n) = number_member (codes "node") (suc n)

-- a message's number and type
abbrev pub kind_members : ℕ → Message → List ℕ
kind_members number m = number_member (codes "message") number ++ text_member (codes "type") (type_text (type_of m.kind))

-- its nodes and its term
abbrev pub way_members : Message → List ℕ
way_members m = number_member (codes "from") m.from ++ (number_member (codes "to") m.to ++ number_member (codes "term") m.term)

-- the message with its number, if there is one
abbrev pub message_members : ℕ → Option Message → List ℕ
message_members number None = []
message_members number (Some m) = kind_members number m ++ way_members m

-- why nothing came of a message, or which entries give way: its line, after blanks and what it is the reason for
abbrev pub reason_member : Option Reason → List ℕ
reason_member None = []
reason_member (Some reason) = text_member (codes "reason") (drop (reason_front reason) (reason_text reason))

-- a page's row, after the comma and the line end that are before it there; what a page doesn't have has none
abbrev pub row_member : List ℕ → List ℕ
row_member [] = []
row_member (b ∷ bs) = codes ",\"row\":" ++ drop 2 (b ∷ bs)

-- ---- objects

-- the directive of this place and line
abbrev pub front : ℕ → ℕ → List ℕ
front place line = codes "{\"directive\":" ++ decimal place ++ number_member (codes "line") line

-- what an item is about
abbrev pub about : ℕ → ℕ → ℕ → ℕ → PlainItem → List ℕ
about place line node number item = front place line ++ (node_member node ++ message_members number (message_of item))

-- what it says
abbrev pub said : PlainItem → List ℕ
said item = text_member (codes "text") (lines.item_text item) ++ (reason_member (reason_of item) ++ row_member (rows.item_text item))

-- of what happens at the directive of this place and line
abbrev pub object : ℕ → ℕ → ℕ → ℕ → PlainItem → List ℕ
object place line node number item = about place line node number item ++ (said item ++ codes "}")

-- the first, which names the format and the script
abbrev pub first_object : ℕ → List ℕ → List ℕ
first_object format name = codes "{\"raftbench\":\"trace\"" ++ number_member (codes "format") format ++ text_member (codes "script") name ++ codes "}"
