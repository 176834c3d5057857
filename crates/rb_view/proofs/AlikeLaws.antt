-- Which message is met: that of a loop's step, or one of those that are left.
use Rattle.std.proofs.Common.{◌≡◌, ◌∙◌, ℕ, ◌+◌, ◌-◌, ◌==◌, Bool, true, false, List, drop, Option, Some, None, refl, ap, sym}
use Rattle.std.specs.Prelude.{if◌then◌else◌, slice_get}
use Rattle.std.specs.Option.{option_or}
use Rattle.rb_message.specs.declared.message.Message.{Message}
use Rattle.rb_view.proofs.KeptLaws.{left_some}
use Rattle.rb_view.specs.InFlight.{is_alike, last_alike, met_from}

met_by : (meant : Message → Bool) (skip : ℕ) (ms : List Message) (i : ℕ) (m : Message) (b none : Bool) → slice_get ms i ≡ Some m → meant m ≡ b → (skip == 0) ≡ none
    → met_from meant skip i (drop i ms) ≡ (if b then (if none then Some i else met_from meant (skip - 1) (i + 1) (drop (i + 1) ms)) else met_from meant skip (i + 1) (drop (i + 1) ms))
met_by meant skip ms i m b none got is skips =
    ap (met_from meant skip i) (left_some ms i m got)
    ∙ ap (λ (t : Bool). if t then (if skip == 0 then Some i else met_from meant (skip - 1) (i + 1) (drop (i + 1) ms)) else met_from meant skip (i + 1) (drop (i + 1) ms)) is
    ∙ ap (λ (t : Bool). if b then (if t then Some i else met_from meant (skip - 1) (i + 1) (drop (i + 1) ms)) else met_from meant skip (i + 1) (drop (i + 1) ms)) skips

-- it is here
pub met_here : (meant : Message → Bool) (skip : ℕ) (ms : List Message) (i : ℕ) (m : Message) → slice_get ms i ≡ Some m → meant m ≡ true → (skip == 0) ≡ true
    → met_from meant skip i (drop i ms) ≡ Some i
met_here meant skip ms i m got is none = met_by meant skip ms i m true true got is none

-- one is skipped
pub met_skipped : (meant : Message → Bool) (skip : ℕ) (ms : List Message) (i : ℕ) (m : Message) → slice_get ms i ≡ Some m → meant m ≡ true → (skip == 0) ≡ false
    → met_from meant skip i (drop i ms) ≡ met_from meant (skip - 1) (i + 1) (drop (i + 1) ms)
met_skipped meant skip ms i m got is some = met_by meant skip ms i m true false got is some

-- one isn't meant
pub met_other : (meant : Message → Bool) (skip : ℕ) (ms : List Message) (i : ℕ) (m : Message) → slice_get ms i ≡ Some m → meant m ≡ false
    → met_from meant skip i (drop i ms) ≡ met_from meant skip (i + 1) (drop (i + 1) ms)
met_other meant skip ms i m got is = met_by meant skip ms i m false (skip == 0) got is refl

-- ---- the last that is alike

last_by : (m other : Message) (ms : List Message) (i : ℕ) (b : Bool) → slice_get ms i ≡ Some other → is_alike m other ≡ b
    → last_alike m i (drop i ms) ≡ option_or (last_alike m (i + 1) (drop (i + 1) ms)) (if b then Some i else None)
last_by m other ms i b got is =
    ap (last_alike m i) (left_some ms i other got) ∙ ap (λ (t : Bool). option_or (last_alike m (i + 1) (drop (i + 1) ms)) (if t then Some i else None)) is

or_or : (a b c : Option ℕ) → option_or a (option_or b c) ≡ option_or (option_or a b) c
or_or None b c = refl
or_or (Some k) b c = refl

pub last_step : (m other : Message) (ms : List Message) (i : ℕ) (found : Option ℕ) → slice_get ms i ≡ Some other
    → option_or (last_alike m (i + 1) (drop (i + 1) ms)) (option_or (if is_alike m other then Some i else None) found) ≡ option_or (last_alike m i (drop i ms)) found
last_step m other ms i found got =
    or_or (last_alike m (i + 1) (drop (i + 1) ms)) (if is_alike m other then Some i else None) found
    ∙ ap (λ (at : Option ℕ). option_or at found) (sym (last_by m other ms i (is_alike m other) got refl))
