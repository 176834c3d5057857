-- Lines with messages, one after the other.
use Rattle.std.proofs.Common.{◌≡◌, ◌∙◌, ℕ, zero, suc, ◌+◌, ◌-◌, ◌<◌, ◌≤◌, true, false, List, ◌∷◌, length, drop, Some, None, refl, ap, arith, inl, inr}
use Rattle.std.specs.Prelude.{◌==◌, slice_get}
use Rattle.std.proofs.lemmas.Bool.Decides.{eqb_tells}
use Rattle.std.proofs.lemmas.List.{drop_all}
use Rattle.rb_script.specs.Lines.{Line}
use Rattle.rb_text.proofs.SentLaws.{drop-get}
use Rattle.rb_editor.specs.declared.actions.message_lines.MessageEvent.{MessageEvent}
use Rattle.rb_editor.specs.declared.actions.message_lines.Flights.{Flights}
use Rattle.rb_editor.specs.Messages.{after_line, event_line, flights_after, has_event}

-- ---- messages in flight

pub one_counted : (m : List ℕ) (f : Flights) (n : ℕ) (ls : List Line) (i : ℕ) (line : Line) → i < n → slice_get ls i ≡ Some line
    → flights_after m f (n - i) (drop i ls) ≡ flights_after m (after_line m f line) (n - (i + 1)) (drop (i + 1) ls)
unfolding flights_after
one_counted m f n ls i line within is =
    let count : n - i ≡ suc (n - (i + 1)) = omega (arith, within) in
    ap (λ (k : ℕ). flights_after m f k (drop i ls)) count ∙ ap (flights_after m f (suc (n - (i + 1)))) (drop-get ls i line is)

pub all_counted : (m : List ℕ) (f : Flights) (n : ℕ) (ls : List Line) (i : ℕ) → n ≤ i → flights_after m f (n - i) (drop i ls) ≡ f
unfolding flights_after
all_counted m f n ls i past = let none : n - i ≡ zero = omega (arith, past) in ap (λ (k : ℕ). flights_after m f k (drop i ls)) none

-- ---- the line with an event

pub event_here : (event : MessageEvent) (m : List ℕ) (n : ℕ) (ls : List Line) (i : ℕ) (line : Line) → slice_get ls i ≡ Some line → has_event event m line ≡ true → n ≡ 0
    → event_line event m n i (drop i ls) ≡ Some i
unfolding event_line
event_here event m n ls i line is has none =
    let here : event_line event m 0 i (line ∷ drop (i + 1) ls) ≡ Some i = rw has refl in
    ap (λ (k : ℕ). event_line event m k i (drop i ls)) none ∙ ap (event_line event m 0 i) (drop-get ls i line is) ∙ here

some_left : (n : ℕ) → 0 < n → (n == 0) ≡ false
some_left n some =
    elim (eqb_tells n 0) [
      | inl y ↦ absurd (omega (arith, some, y.1))
      | inr z ↦ z.0
    ]

later : (event : MessageEvent) (m : List ℕ) (n i : ℕ) (line : Line) (ls : List Line) → has_event event m line ≡ true → 0 < n → event_line event m n i (line ∷ ls) ≡ event_line event m (n - 1) (i + 1) ls
unfolding event_line
later event m n i line ls has some = rw (has, some_left n some) refl

pub event_later : (event : MessageEvent) (m : List ℕ) (n : ℕ) (ls : List Line) (i : ℕ) (line : Line) → slice_get ls i ≡ Some line → has_event event m line ≡ true → 0 < n
    → event_line event m n i (drop i ls) ≡ event_line event m (n - 1) (i + 1) (drop (i + 1) ls)
event_later event m n ls i line is has some = ap (event_line event m n i) (drop-get ls i line is) ∙ later event m n i line (drop (i + 1) ls) has some

pub event_below : (event : MessageEvent) (m : List ℕ) (n : ℕ) (ls : List Line) (i : ℕ) (line : Line) → slice_get ls i ≡ Some line → has_event event m line ≡ false
    → event_line event m n i (drop i ls) ≡ event_line event m n (i + 1) (drop (i + 1) ls)
unfolding event_line
event_below event m n ls i line is other =
    let below : event_line event m n i (line ∷ drop (i + 1) ls) ≡ event_line event m n (i + 1) (drop (i + 1) ls) = rw other refl in
    ap (event_line event m n i) (drop-get ls i line is) ∙ below

pub event_nowhere : (event : MessageEvent) (m : List ℕ) (n k : ℕ) (ls : List Line) (i : ℕ) → length ls ≤ i → event_line event m n k (drop i ls) ≡ None
unfolding event_line
event_nowhere event m n k ls i past = ap (event_line event m n k) (drop_all i ls past)
