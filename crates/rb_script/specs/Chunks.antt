-- A list in chunks, one after another. (This project's.)
use Rattle.std.specs.Prelude.{◌≡◌, ℕ, ◌+◌, ◌<◌, ◌≤◌, List, length, take, slice_index}
use Rattle.std.specs.List.{flat_map}
use Rattle.rb_script.specs.declared.chunk_position.ChunkPosition.{ChunkPosition}

-- the items of the chunks, in order
abbrev pub flattened : {X : Type 0} → List (List X) → List X
flattened gs = flat_map (λ g. g) gs

-- how many are before chunk k
abbrev pub before : {X : Type 0} → List (List X) → ℕ → ℕ
before gs k = length (flattened (take k gs))

-- where each of the first n chunks begins
pub record AreStarts {X : Type 0} (starts : List ℕ) (gs : List (List X)) (n : ℕ) : Type 0 where
  pub count : length starts ≡ n
  pub each : (k : ℕ) → k < n → slice_index starts k ≡ before gs k

-- the offsets of chunks: where each begins, and their total length
pub record IsChunked {X : Type 0} (starts : List ℕ) (gs : List (List X)) (len : ℕ) : Type 0 where
  pub starts_are : AreStarts starts gs (length gs)
  pub len_is : len ≡ length (flattened gs)

-- the item with this index is in one of the chunks from `low` up to before `high`
pub record IsInChunks {X : Type 0} (gs : List (List X)) (at low high : ℕ) : Type 0 where
  pub order : low < high
  pub within : high ≤ length gs
  pub from : before gs low ≤ at
  pub to : at < before gs high

-- how many items come before a place
abbrev pub index_of : {X : Type 0} → List (List X) → ChunkPosition → ℕ
index_of gs place = before gs place.chunk + place.within

-- a place lies in its chunk, or at an end of it
pub record IsPlace {X : Type 0} (gs : List (List X)) (place : ChunkPosition) : Type 0 where
  pub chunk : place.chunk < length gs
  pub within : index_of gs place ≤ before gs (place.chunk + 1)
