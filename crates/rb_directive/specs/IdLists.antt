-- Lists of ids. (This project's.)
use Rattle.std.specs.Prelude.{ℕ, Bool, ◌==◌, nat_lt, if◌then◌else◌, List, [], ◌∷◌, ◌++◌, length, Option, Some, None}
use Rattle.std.specs.List.{list_any}
use Rattle.std.specs.Option.{option_and_then}
use Rattle.rb_text.specs.Numbers.{number_of}
use Rattle.rb_directive.specs.declared.limits.TheConstants.{MAX_ID, MAX_IDS}
use Rattle.rb_directive.specs.Forms.{Word, within}

-- the id is one of these
abbrev pub holds : List ℕ → ℕ → Bool
holds ids id = list_any (λ other. other == id) ids

-- the lists have an id in common
abbrev pub share : List ℕ → List ℕ → Bool
share ids others = list_any (holds others) ids

-- the id that a word is
abbrev pub id_of : Word → Option ℕ
id_of w = within 1 MAX_ID (number_of w)

abbrev pub with_id : List ℕ → Option ℕ → Option (List ℕ)
with_id ids None = None
with_id ids (Some id) = if nat_lt (length ids) MAX_IDS then Some (ids ++ id ∷ []) else None

-- the ids, and those of the words; `None` if a word isn't an id, or the list is full
abbrev pub with_ids : List Word → Option (List ℕ) → Option (List ℕ)
with_ids [] ids = ids
with_ids (w ∷ words) ids = with_ids words (option_and_then (λ some. with_id some (id_of w)) ids)
