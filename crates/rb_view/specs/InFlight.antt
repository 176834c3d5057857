-- The messages in flight, as what happens tells it. A node gets its messages in the order in which they were sent; a directive may choose some of
-- them. (docs/FORMATS.md, "The rows of a page".)
use Rattle.std.specs.Prelude.{ℕ, ◌+◌, ◌-◌, Bool, true, false, ◌&&◌, ◌==◌, if◌then◌else◌, List, [], ◌∷◌, ◌++◌, Option, Some, None, Result, Ok, Err}
use Rattle.std.specs.List.{remove}
use Rattle.std.specs.Option.{option_or}
use Rattle.std.specs.Str.{bytes_eq}
use Rattle.rb_script.specs.Directive.{PlainDirective}
use Rattle.rb_vocab.specs.declared.directive_error.DirectiveError.{DirectiveError}
use Rattle.rb_vocab.specs.MessageTypes.{type_text}
use Rattle.rb_directive.specs.declared.build.Asked.{Asked}
use Rattle.rb_directive.specs.declared.requests.MailChoice.{MailChoice}
use Rattle.rb_directive.specs.declared.requests.Request.{Request}
use Rattle.rb_directive.specs.declared.requests.Request.TheVariants as requests
use Rattle.rb_directive.specs.Requests.{all_mail, request}
use Rattle.rb_message.specs.declared.message.Message.{Message}
use Rattle.rb_message.specs.Messages.{type_of}
use Rattle.rb_texts.specs.Items.{PlainItem, ready, send, moved}
use Rattle.rb_texts.specs.declared.item.Verb.TheVariants as verbs
use Rattle.rb_machine.specs.Pending.{is_meant}
use Rattle.rb_view.specs.declared.chart.arrow.Arrow.{Arrow}
use Rattle.rb_view.specs.declared.chart.css_class.DeliveryState.{DeliveryState}
use Rattle.rb_view.specs.declared.chart.css_class.DeliveryState.TheVariants as states
use Rattle.rb_view.specs.declared.chart.in_flight.MessageChange.{MessageChange}
use Rattle.rb_view.specs.declared.chart.in_flight.MessageChange.TheVariants as changes

-- the messages in flight, in the order in which they were sent; which of them the directive chooses; and whether a ready of the directive was shown,
-- with all that it sends
pub record PlainInFlight : Type 0 where
  pub messages : List Message
  pub choice : MailChoice
  pub is_ready : Bool

-- ---- which messages a directive chooses

abbrev pub choice_of : Request → MailChoice
choice_of (requests.DeliverMsgs asked) = asked.choice
choice_of r = all_mail

abbrev pub choice_by : Result Asked DirectiveError → MailChoice
choice_by (Ok a) = choice_of a.request
choice_by (Err e) = all_mail

-- all of them, unless it says which
unfoldable pub mail_choice : PlainDirective → MailChoice
mail_choice d = choice_by (request d)

-- ---- which message is met

-- the position of the first message that is meant after as many as are skipped, where that of the first is `at`
abbrev pub met_from : (Message → Bool) → ℕ → ℕ → List Message → Option ℕ
met_from meant skip at [] = None
met_from meant skip at (m ∷ ms) =
    if meant m then (if skip == 0 then Some at else met_from meant (skip - 1) (at + 1) ms) else met_from meant skip (at + 1) ms

-- the position of the message to a node that is met next
abbrev pub next_met : PlainInFlight → ℕ → Option ℕ
next_met f id = met_from (is_meant id f.choice) f.choice.skip 0 f.messages

-- a message is of the same type, and to the same node
abbrev pub is_alike : Message → Message → Bool
is_alike m other = other.to == m.to && bytes_eq (type_text (type_of other.kind)) (type_text (type_of m.kind))

-- the position of the last such one, where that of the first is `at`
abbrev pub last_alike : Message → ℕ → List Message → Option ℕ
last_alike m at [] = None
last_alike m at (other ∷ others) = option_or (last_alike m (at + 1) others) (if is_alike m other then Some at else None)

-- ---- what happens

-- the messages in flight after something, and what became of one
pub record Taken : Type 0 where
  pub left : PlainInFlight
  pub change : MessageChange

abbrev pub taken : PlainInFlight → MessageChange → Taken
taken left change = record { left = left; change = change }

abbrev pub arrow : Message → DeliveryState → Arrow
arrow m state = record { from = m.from; to = m.to; message_type = type_of m.kind; state = state }

abbrev pub added : PlainInFlight → Message → Taken
added f m = taken (record f { messages = f.messages ++ m ∷ [] }) (changes.Sent (arrow m states.Waiting))

-- the message at a position ends so
abbrev pub ended : PlainInFlight → DeliveryState → Option ℕ → Taken
ended f state None = taken f changes.Nothing
ended f state (Some at) = taken (record f { messages = remove f.messages at }) (changes.Ended at state)

-- a message finds no room: one that a ready has shown as sent is in flight no longer, and one that was sent by hand never was
abbrev pub given_up : PlainInFlight → Message → Taken
given_up f m = if f.is_ready then ended f states.Lost (last_alike m 0 f.messages) else taken f (changes.Refused (arrow m states.Lost))

unfoldable pub taking : PlainInFlight → PlainItem → Taken
taking f (ready id) = taken (record f { is_ready = true }) changes.Nothing
taking f (send m) = added f m
taking f (moved verbs.Queue m) = added f m
taking f (moved verbs.Deliver m) = ended f states.Delivered (next_met f m.to)
taking f (moved verbs.Drop m) = ended f states.Lost (next_met f m.to)
taking f (moved verbs.NoRoomFor m) = given_up f m
taking f item = taken f changes.Nothing

-- ---- a directive begins

-- it chooses these
abbrev pub with_choice : MailChoice → PlainInFlight → PlainInFlight
with_choice choice f = record f { choice = choice }

abbrev pub started : PlainInFlight → PlainInFlight
started f = record f { is_ready = false }

-- the messages in flight after an item
abbrev pub flying : PlainInFlight → PlainItem → PlainInFlight
flying f item = (taking f item).left

abbrev pub none_in_flight : PlainInFlight
none_in_flight = record { messages = []; choice = all_mail; is_ready = false }
