-- The arrows of a picture: one for each message that was sent, in the order in which they were sent, and what became of it. (This project's.)
use Rattle.std.specs.Prelude.{ℕ, ◌++◌, List, [], ◌∷◌, length, fold, slice_get, slice_set, Option, Some, None}
use Rattle.std.specs.List.{remove}
use Rattle.rb_script.specs.Directive.{PlainDirective}
use Rattle.rb_directive.specs.declared.requests.MailChoice.{MailChoice}
use Rattle.rb_message.specs.declared.message.Message.{Message}
use Rattle.rb_texts.specs.Items.{PlainItem, send}
use Rattle.rb_view.specs.declared.chart.arrow.Arrow.{Arrow}
use Rattle.rb_view.specs.declared.chart.css_class.DeliveryState.{DeliveryState}
use Rattle.rb_view.specs.declared.chart.in_flight.MessageChange.{MessageChange}
use Rattle.rb_view.specs.declared.chart.in_flight.MessageChange.TheVariants as changes
use Rattle.rb_view.specs.InFlight.{PlainInFlight, Taken, mail_choice, none_in_flight, started, taking, with_choice}

-- the arrows so far, the messages in flight, and for each of these the position of its arrow
pub record PlainArrows : Type 0 where
  pub arrows : List Arrow
  pub in_flight : PlainInFlight
  pub positions : List ℕ

abbrev pub no_arrows : PlainArrows
no_arrows = record { arrows = []; in_flight = none_in_flight; positions = [] }

-- ---- one arrow

abbrev pub with_state : DeliveryState → Arrow → Arrow
with_state state a = record a { state = state }

abbrev pub set_state_of : Option Arrow → ℕ → DeliveryState → List Arrow → List Arrow
set_state_of None at state arrows = arrows
set_state_of (Some a) at state arrows = slice_set arrows at (with_state state a)

-- the arrow at a position ends so
abbrev pub set_state : ℕ → DeliveryState → List Arrow → List Arrow
set_state at state arrows = set_state_of (slice_get arrows at) at state arrows

-- ---- what happens

abbrev pub end_arrow : Option ℕ → ℕ → DeliveryState → PlainArrows → PlainArrows
end_arrow None at state d = d
end_arrow (Some position) at state d = record d { arrows = set_state position state d.arrows; positions = remove d.positions at }

-- a message is sent, and has an arrow; it ends, and its arrow does; it finds no room, and its arrow ends where it begins
abbrev pub changed : MessageChange → PlainArrows → PlainArrows
changed changes.Nothing d = d
changed (changes.Sent a) d = record d { arrows = d.arrows ++ a ∷ []; positions = d.positions ++ length d.arrows ∷ [] }
changed (changes.Refused a) d = record d { arrows = d.arrows ++ a ∷ [] }
changed (changes.Ended at state) d = end_arrow (slice_get d.positions at) at state d

abbrev pub drawn_as : PlainArrows → Taken → PlainArrows
drawn_as d t = changed t.change (record d { in_flight = t.left })

unfoldable pub drawing : PlainArrows → PlainItem → PlainArrows
drawing d item = drawn_as d (taking d.in_flight item)

-- a directive begins, and chooses these messages
abbrev pub choosing : MailChoice → PlainArrows → PlainArrows
choosing choice d = record d { in_flight = with_choice choice d.in_flight }

abbrev pub begun : PlainArrows → PlainArrows
begun d = record d { in_flight = started d.in_flight }

abbrev pub begun_by : PlainDirective → PlainArrows → PlainArrows
begun_by directive d = begun (choosing (mail_choice directive) d)

-- messages that come in from above: as if they were sent
abbrev pub resent : PlainArrows → Message → PlainArrows
resent d m = drawing d (send m)

abbrev pub coming_in : List Message → PlainArrows
coming_in messages = fold resent no_arrows messages
