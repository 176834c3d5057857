-- What the arrows of a picture promise, in terms of what happens and of messages. (This project's.)
use Rattle.std.specs.Prelude.{◌≡◌, ℕ, ◌+◌, Bool, true, false, if◌then◌else◌, List, [], ◌∷◌, ◌++◌, ◌<◌, filter, length, map, slice_get, slice_index, slice_set, Some}
use Rattle.rb_script.specs.Reading.{directive_of}
use Rattle.rb_script.specs.Script.{PlainBlock}
use Rattle.rb_vocab.specs.declared.message_type.MessageType.{MessageType}
use Rattle.rb_message.specs.declared.message.Message.{Message}
use Rattle.rb_message.specs.Messages.{type_of}
use Rattle.rb_texts.specs.Items.{PlainItem, ready, send, moved}
use Rattle.rb_texts.specs.declared.item.Verb.TheVariants as verbs
use Rattle.rb_machine.specs.Cluster.{Cluster}
use Rattle.rb_machine.specs.Outcome.{outcome}
use Rattle.rb_view.specs.declared.chart.arrow.Arrow.{Arrow}
use Rattle.rb_view.specs.declared.chart.css_class.DeliveryState.{DeliveryState}
use Rattle.rb_view.specs.declared.chart.css_class.DeliveryState.TheVariants as states
use Rattle.rb_view.specs.InFlight.{arrow}
use Rattle.rb_view.specs.Arrows.{PlainArrows, drawing}
use Rattle.rb_view.specs.declared.chart.part.ChartPart.{ChartPart}
use Rattle.rb_view.specs.declared.chart.part.ChartPhase.{ChartPhase}
use Rattle.rb_view.specs.declared.chart.part.ChartPhase.TheVariants as phases
use Rattle.rb_view.specs.Drawn.{phase_at}

-- ---- which messages have arrows

-- who sends a message, to whom, and its type
pub record Address : Type 0 where
  pub from : ℕ
  pub to : ℕ
  pub message_type : MessageType

abbrev pub arrow_address : Arrow → Address
arrow_address a = record { from = a.from; to = a.to; message_type = a.message_type }

abbrev pub message_address : Message → Address
message_address m = record { from = m.from; to = m.to; message_type = type_of m.kind }

-- the messages that something sends: by a ready, or by hand, where it is sent even if it finds no room
unfoldable pub sends : Bool → PlainItem → List Message
sends is_ready (send m) = m ∷ []
sends is_ready (moved verbs.Queue m) = m ∷ []
sends is_ready (moved verbs.NoRoomFor m) = if is_ready then [] else m ∷ []
sends is_ready item = []

-- a ready of the directive was shown
unfoldable pub is_ready_after : Bool → PlainItem → Bool
is_ready_after is_ready (ready id) = true
is_ready_after is_ready item = is_ready

abbrev pub all_sent : Bool → List PlainItem → List Message
all_sent is_ready [] = []
all_sent is_ready (item ∷ items) = sends is_ready item ++ all_sent (is_ready_after is_ready item) items

-- ---- which arrows wait

abbrev pub waits : DeliveryState → Bool
waits states.Waiting = true
waits states.Delivered = false
waits states.Lost = false

-- the positions of the arrows that wait, where that of the first is `at`
abbrev pub waiting_from : ℕ → List Arrow → List ℕ
waiting_from at [] = []
waiting_from at (a ∷ arrows) = if waits a.state then at ∷ waiting_from (at + 1) arrows else waiting_from (at + 1) arrows

-- ---- which messages are on their way

-- the arrows that wait
abbrev pub waiting_arrows : List Arrow → List Arrow
waiting_arrows arrows = filter (λ (a : Arrow). waits a.state) arrows

-- the arrow of a pending message
abbrev pub waiting_arrow : Message → Arrow
waiting_arrow m = arrow m states.Waiting

-- The arrows show what is pending in a cluster: one arrow waits for each pending message, in order, and no other arrow waits. The messages
-- in flight, as items tell them, are the pending ones.
pub record Shows (c : Cluster) (d : PlainArrows) : Type 0 where
  pub waiting : waiting_arrows d.arrows ≡ map waiting_arrow c.pending
  pub messages : d.in_flight.messages ≡ c.pending
  pub positions : d.positions ≡ waiting_from 0 d.arrows

-- ---- which arrow ends

-- a message ends its own arrow: it is in flight, at this place; the arrow of that place has waited, and now has this state
pub record EndsItsOwn (m : Message) (state : DeliveryState) (before after : PlainArrows) : Type 0 where
  pub place : ℕ
  pub position : ℕ
  pub is_in_flight : slice_get before.in_flight.messages place ≡ Some m
  pub has_position : slice_get before.positions place ≡ Some position
  pub has_waited : slice_get before.arrows position ≡ Some (waiting_arrow m)
  pub has_ended : after.arrows ≡ slice_set before.arrows position (arrow m state)

abbrev pub Ends : PlainItem → PlainArrows → PlainArrows → Type 0
Ends (moved verbs.Deliver m) before after = EndsItsOwn m states.Delivered before after
Ends (moved verbs.Drop m) before after = EndsItsOwn m states.Lost before after
Ends item before after = Unit {0}

-- each message that is delivered or dropped ends its own
abbrev pub AllEnd : PlainArrows → List PlainItem → Type 0
AllEnd d [] = Unit {0}
AllEnd d (item ∷ items) = Ends item d (drawing d item) × AllEnd (drawing d item) items

-- ---- a picture, or a part of one

-- the lines on which heads begin ascend
abbrev pub Ascend : List ℕ → Type 0
Ascend heads = (i j : ℕ) → i < j → j < length heads → slice_index heads i < slice_index heads j

-- what is pending where a picture ends, if a directive of this phase follows, after which the cluster is this
abbrev pub pending_with : ChartPhase → Cluster → List Message → List Message
pending_with phases.Within c pending = c.pending
pending_with phase c pending = pending

-- what is pending after the last directive that is drawn; if none is drawn, it is what was given
abbrev pub pending_drawn : ChartPart → List Message → Cluster → List ℕ → List PlainBlock → List Message
pending_drawn p pending c [] bs = pending
pending_drawn p pending c (line ∷ heads) [] = pending
pending_drawn p pending c (line ∷ heads) (b ∷ bs) =
    pending_drawn p (pending_with (phase_at p line) (outcome c (directive_of b)).cluster pending) (outcome c (directive_of b)).cluster heads bs
