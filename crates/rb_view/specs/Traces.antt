-- The trace of a script: an object of JSON a line for each thing that happens. (docs/FORMATS.md.)
use Rattle.std.specs.Prelude.{ℕ, ◌+◌, Bool, true, false, if◌then◌else◌, fold, List, [], ◌∷◌, ◌++◌, Option, Some, None}
use Rattle.rb_vocab.specs.declared.level.Level.{Level}
use Rattle.rb_message.specs.declared.message.Message.{Message}
use Rattle.rb_script.specs.Lines.{Line}
use Rattle.rb_script.specs.Script.{PlainBlock, PlainScript}
use Rattle.rb_script.specs.Reading.{directive_of}
use Rattle.rb_texts.specs.declared.item.Verb.{Verb}
use Rattle.rb_texts.specs.declared.item.Verb.TheVariants as verbs
use Rattle.rb_texts.specs.Items.{PlainItem}
use Rattle.rb_texts.specs.Items as items
use Rattle.rb_texts.specs.Texts.{item_text}
use Rattle.rb_machine.specs.Cluster.{Cluster, empty}
use Rattle.rb_machine.specs.Outcome.{execution, shown_items, outcome}
use Rattle.rb_view.specs.declared.trace.tracer.Tracer.{Tracer}
use Rattle.rb_view.specs.declared.trace.trace.TheConstants.{FORMAT}
use Rattle.rb_view.specs.Mail.{PlainOnWay, joined_by, number_of, number_past, without, without_past}
use Rattle.rb_view.specs.Objects.{first_object, node_of, object}

-- a message as it is shown, by which it is known again
abbrev pub shown : Message → List ℕ
shown m = item_text (items.send m)

-- ---- one item more

-- the number of the item's message, and the messages that are in flight then
pub record Numbered : Type 0 where
  pub number : ℕ
  pub sent : ℕ
  pub mail : List PlainOnWay

-- a message is sent
abbrev pub sending : Tracer → Message → Numbered
sending t m = record { number = t.sent + 1; sent = t.sent + 1; mail = joined_by (t.sent + 1) (shown m) t.mail }

-- a message is in flight no longer
abbrev pub meeting : Tracer → Message → Numbered
meeting t m = record { number = number_of (shown m) t.mail; sent = t.sent; mail = without (shown m) t.mail }

-- a message finds no room: it was sent, or it is put among the others by hand and has a number of its own
abbrev pub given_up_as : Tracer → Option ℕ → Numbered
given_up_as t (Some number) = record { number = number; sent = t.sent; mail = without_past t.mail }
given_up_as t None = record { number = t.sent + 1; sent = t.sent + 1; mail = without_past t.mail }

abbrev pub given_up : Tracer → Numbered
given_up t = given_up_as t (number_past t.mail)

abbrev pub moving : Tracer → Verb → Message → Numbered
moving t verbs.Deliver m = meeting t m
moving t verbs.Drop m = meeting t m
moving t verbs.Queue m = sending t m
moving t verbs.NoRoomFor m = given_up t

abbrev pub numbered : Tracer → PlainItem → Numbered
numbered t (items.send m) = sending t m
numbered t (items.moved verb m) = moving t verb m
numbered t item = record { number = 0; sent = t.sent; mail = t.mail }

-- the node whose ready is shown
abbrev pub ready_after : ℕ → PlainItem → ℕ
ready_after ready (items.ready id) = id
ready_after ready item = ready

abbrev pub counted : Tracer → Numbered → Tracer
counted t n = record t { sent = n.sent; mail = n.mail }

abbrev pub with_object : Tracer → ℕ → PlainItem → Tracer
with_object t number item = record t {
  ready = ready_after t.ready item;
  lines = t.lines ++ object t.place t.line (node_of t.ready item) number item ∷ [];
}

abbrev pub with_number : Tracer → Numbered → PlainItem → Tracer
with_number t n item = with_object (counted t n) n.number item

abbrev pub with_item : Tracer → PlainItem → Tracer
with_item t item = with_number t (numbered t item) item

-- a directive begins, whatever its level is
abbrev pub at_level : Tracer → Level → Tracer
at_level t level = t

-- ---- directives

-- the directive at this place, whose head is at this line
abbrev pub begun : Tracer → ℕ → ℕ → Tracer
begun t place line = record t { place = place; line = line }

-- what is traced of a directive of a cluster
abbrev pub traced : Tracer → ℕ → ℕ → Cluster → PlainBlock → Tracer
traced t place line c b = fold with_item (begun t place line) (shown_items (execution c (directive_of b)))

-- of blocks, one after another from a place on, whose heads are at these lines
abbrev pub traced_from : List ℕ → ℕ → Cluster → Tracer → List PlainBlock → Tracer
traced_from [] place c t bs = t
traced_from (line ∷ heads) place c t [] = t
traced_from (line ∷ heads) place c t (b ∷ bs) = traced_from heads (place + 1) (outcome c (directive_of b)).cluster (traced t place line c b) bs

-- nothing has happened yet
abbrev pub nothing : Tracer
nothing = record { place = 0; line = 0; ready = 0; sent = 0; mail = []; lines = [] }

-- the objects of a script, from the empty cluster on
abbrev pub objects : List ℕ → PlainScript → List Line
objects heads s = (traced_from heads 1 empty nothing s.blocks).lines

-- the lines of the trace of a script of this name
abbrev pub trace_lines : List ℕ → List ℕ → PlainScript → List Line
trace_lines name heads s = first_object FORMAT name ∷ objects heads s
