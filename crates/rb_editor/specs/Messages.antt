-- The lines of a text on which a message is sent, and on which it arrives or is lost. (docs/SCRIPTS.md, "Outputs". Outputs don't number messages: of
-- equal ones the first that was sent arrives first. Lines count from 0.)
use Rattle.std.specs.Prelude.{ℕ, zero, suc, ◌+◌, ◌-◌, Bool, false, ◌==◌, ◌&&◌, ◌||◌, nat_lt, if◌then◌else◌, List, [], ◌∷◌, codes, length, take, drop, slice_get, Option, Some, None}
use Rattle.std.specs.Str.{bytes_eq}
use Rattle.rb_script.specs.Lines.{Line}
use Rattle.rb_editor.specs.declared.actions.message_lines.MessageEvent.{MessageEvent}
use Rattle.rb_editor.specs.declared.actions.message_lines.MessageEvent.TheVariants.{Sent, Ended}
use Rattle.rb_editor.specs.declared.actions.message_lines.Flights.{Flights}
use Rattle.rb_editor.specs.declared.actions.message_lines.MessageLines.{MessageLines}

-- what is after a word at the front of a line
abbrev pub behind : List ℕ → Line → Option (List ℕ)
behind word line = if bytes_eq (take (length word) line) word then Some (drop (length word) line) else None

-- the message that a line is about
abbrev pub or_next : Option (List ℕ) → Option (List ℕ) → Option (List ℕ)
or_next None next = next
or_next (Some m) next = Some m

unfoldable pub message_of : Line → Option (List ℕ)
message_of line = or_next (behind (codes "  send ") line) (or_next (behind (codes "deliver ") line) (behind (codes "drop ") line))

-- ---- events

abbrev pub is_message : List ℕ → Option (List ℕ) → Bool
is_message m None = false
is_message m (Some n) = bytes_eq n m

-- the message is sent on the line
unfoldable pub sends : List ℕ → Line → Bool
sends m line = is_message m (behind (codes "  send ") line)

-- it arrives there, or is lost
unfoldable pub ends : List ℕ → Line → Bool
ends m line = is_message m (behind (codes "deliver ") line) || is_message m (behind (codes "drop ") line)

abbrev pub has_event : MessageEvent → List ℕ → Line → Bool
has_event Sent m line = sends m line
has_event Ended m line = ends m line

-- ---- messages in flight

abbrev pub NO_FLIGHTS : Flights
NO_FLIGHTS = record { sent = 0; ended = 0 }

-- after a line; one that wasn't sent on a line above doesn't count
abbrev pub after_line : List ℕ → Flights → Line → Flights
after_line m f line =
    if sends m line then record { sent = f.sent + 1; ended = f.ended } else (if ends m line && nat_lt f.ended f.sent then record { sent = f.sent; ended = f.ended + 1 } else f)

-- after the first n of these lines
unfoldable pub flights_after : List ℕ → Flights → ℕ → List Line → Flights
flights_after m f zero ls = f
flights_after m f (suc n) [] = f
flights_after m f (suc n) (line ∷ ls) = flights_after m (after_line m f line) n ls

-- Of these lines, of which the first has number k, the number of the one with the event that n others with it are above.
unfoldable pub event_line : MessageEvent → List ℕ → ℕ → ℕ → List Line → Option ℕ
event_line event m n k [] = None
event_line event m n k (line ∷ ls) = if has_event event m line then (if n == 0 then Some k else event_line event m (n - 1) (k + 1) ls) else event_line event m n (k + 1) ls

-- ---- the lines of a message

-- of the message that is sent on line n, where these are in flight
abbrev pub lines_of_sent : List Line → ℕ → List ℕ → Flights → MessageLines
lines_of_sent ls n m f = record { sent = Some n; ended = event_line Ended m (f.sent - f.ended) n (drop n ls) }

-- of the one that arrives there, or is lost
abbrev pub lines_of_ended : List Line → ℕ → List ℕ → Flights → MessageLines
lines_of_ended ls n m f = record { sent = if nat_lt f.ended f.sent then event_line Sent m f.ended 0 ls else None; ended = Some n }

abbrev pub lines_of_message : List Line → ℕ → Line → List ℕ → MessageLines
lines_of_message ls n line m = if sends m line then lines_of_sent ls n m (flights_after m NO_FLIGHTS n ls) else lines_of_ended ls n m (flights_after m NO_FLIGHTS n ls)

abbrev pub lines_by : List Line → ℕ → Line → Option (List ℕ) → MessageLines
lines_by ls n line None = record { sent = None; ended = None }
lines_by ls n line (Some m) = lines_of_message ls n line m

abbrev pub lines_on : List Line → ℕ → Option Line → MessageLines
lines_on ls n None = record { sent = None; ended = None }
lines_on ls n (Some line) = lines_by ls n line (message_of line)

-- of the message that line n is about; none if it is about none
unfoldable pub message_lines : List Line → ℕ → MessageLines
message_lines ls n = lines_on ls n (slice_get ls n)
