-- Messages in flight, each with its number: how many were sent when it was. (This project's.)
use Rattle.std.specs.Prelude.{ℕ, suc, ◌+◌, if◌then◌else◌, List, [], ◌∷◌, ◌++◌, take, drop, slice_get, Option, Some, None, option_map}
use Rattle.std.specs.Str.{bytes_eq}
use Rattle.rb_machine.specs.declared.limits.TheConstants.{MAX_PENDING}

pub record PlainOnWay : Type 0 where
  pub number : ℕ
  -- the message as it is shown
  pub text : List ℕ

-- the index of the first that is shown so; after the last, if there is none
unfoldable pub place_of : List ℕ → List PlainOnWay → ℕ
place_of text [] = 0
place_of text (w ∷ ws) = if bytes_eq w.text text then 0 else suc (place_of text ws)

abbrev pub number_by : Option PlainOnWay → ℕ
number_by None = 0
number_by (Some w) = w.number

-- its number, or 0
abbrev pub number_of : List ℕ → List PlainOnWay → ℕ
number_of text ws = number_by (slice_get ws (place_of text ws))

-- all but the first that is shown so
abbrev pub without : List ℕ → List PlainOnWay → List PlainOnWay
without text ws = take (place_of text ws) ws ++ drop (place_of text ws + 1) ws

-- the number of that at an index, if there is one, and all others
abbrev pub number_at : ℕ → List PlainOnWay → Option ℕ
number_at place ws = option_map (λ (w : PlainOnWay). w.number) (slice_get ws place)

abbrev pub without_at : ℕ → List PlainOnWay → List PlainOnWay
without_at place ws = take place ws ++ drop (place + 1) ws

-- the same of the first that there is no room for: it is after as many as may be pending
abbrev pub number_past : List PlainOnWay → Option ℕ
number_past = number_at MAX_PENDING

abbrev pub without_past : List PlainOnWay → List PlainOnWay
without_past = without_at MAX_PENDING

-- one more
abbrev pub joined_by : ℕ → List ℕ → List PlainOnWay → List PlainOnWay
joined_by number text ws = ws ++ record { number = number; text = text } ∷ []
