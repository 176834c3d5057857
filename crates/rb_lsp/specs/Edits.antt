-- One edit of what differs between two texts. (This project's.)
use Rattle.std.specs.Prelude.{◌≡◌, ℕ, zero, suc, ◌+◌, ◌-◌, ◌==◌, true, if◌then◌else◌, List, [], ◌∷◌, length, drop, reverse, slice_range}
use Rattle.rb_lsp.specs.declared.document.position.Encoding.{Encoding}
use Rattle.rb_lsp.specs.declared.document.position.Range.{Range}
use Rattle.rb_lsp.specs.Places.{begins, is_place, position_of}
use Rattle.rb_lsp.specs.Changes.{changed}

-- how many bytes are the same at the beginnings
unfoldable pub common : List ℕ → List ℕ → ℕ
common [] new = 0
common (a ∷ old) [] = 0
common (a ∷ old) (b ∷ new) = if a == b then suc (common old new) else 0

-- how many are the same at the ends, of those after the first `front`
abbrev pub common_end : ℕ → List ℕ → List ℕ → ℕ
common_end front old new = common (reverse (drop front old)) (reverse (drop front new))

-- the last place up to one that has a position
unfoldable pub place_before : ℕ → List ℕ → ℕ
place_before zero text = 0
place_before (suc k) text = if is_place (suc k) text then suc k else place_before k text

-- the first from one on, of n more
unfoldable pub place_among : ℕ → ℕ → List ℕ → ℕ
place_among zero at text = at
place_among (suc n) at text = if is_place at text then at else place_among n (at + 1) text

abbrev pub place_behind : ℕ → List ℕ → ℕ
place_behind at text = place_among (length text - at) at text

-- between which bytes of the old text the new one differs, by places that have positions
abbrev pub front_of : List ℕ → List ℕ → ℕ
front_of old new = place_before (common old new) old

abbrev pub stop_behind : ℕ → List ℕ → List ℕ → ℕ
stop_behind front old new = place_behind (length old - common_end front old new) old

abbrev pub stop_of : List ℕ → List ℕ → ℕ
stop_of old new = stop_behind (front_of old new) old new

-- the range that differs, and the new text's bytes in its place
abbrev pub range_between : Encoding → List ℕ → List ℕ → Range
range_between encoding old new = record { start = position_of encoding (front_of old new) old; end = position_of encoding (stop_of old new) old }

abbrev pub new_between : List ℕ → List ℕ → List ℕ
new_between old new = slice_range new (front_of old new) (length new - (length old - stop_of old new))

-- Replacing that range of the old text makes the new text, if the old one begins with a character.
abbrev pub EditsMake : Type 0
EditsMake = (encoding : Encoding) (old new : List ℕ) → begins old ≡ true → changed encoding (range_between encoding old new) (new_between old new) old ≡ new
