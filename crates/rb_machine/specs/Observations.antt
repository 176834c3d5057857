-- What an observer gets while a directive runs. (This project's.)
use Rattle.std.specs.Prelude.{ℕ, List, [], ◌∷◌, ◌++◌, fold}
use Rattle.rb_node.specs.Node.{PlainNode}
use Rattle.rb_texts.specs.Items.{PlainItem}

pub data Observation : Type 0 where
  -- items are shown
  Shown : List PlainItem → Observation
  -- the node with this id has reached its state after an event
  Settled : ℕ → PlainNode → Observation

-- the items among observations
abbrev pub items_of : List Observation → List PlainItem
items_of [] = []
items_of (Shown items ∷ observed) = items ++ items_of observed
items_of (Settled id n ∷ observed) = items_of observed

-- what becomes of an observer, by what it makes of an item and of a node
abbrev pub observing : {X : Type 0} → (X → PlainItem → X) → (X → ℕ → PlainNode → X) → X → Observation → X
observing taking settling x (Shown items) = fold taking x items
observing taking settling x (Settled id n) = settling x id n

-- an observer of items alone lets nodes pass
abbrev pub passing : {X : Type 0} → X → ℕ → PlainNode → X
passing x id n = x
