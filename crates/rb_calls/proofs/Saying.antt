-- What a node says: its messages, and its answers that wait
use Rattle.std.proofs.Common.{[], List, ◌++◌, ◌∷◌, ℕ, ◌==◌, ◌≡◌, false, sym, ◌∙◌, eq-eqb}
use Rattle.std.proofs.lemmas.Bool.{false≢true}
use Rattle.rb_message.specs.declared.message.Message.{Message}
use Rattle.rb_node.specs.Node.{PlainNode}

pub record Words : Type 0 where
  pub sent : List Message
  pub waiting : List Message

abbrev pub words : PlainNode → Words
words n = record { sent = n.sent; waiting = n.waiting }

abbrev pub with_sent : PlainNode → Message → PlainNode
with_sent n m = record n { sent = n.sent ++ m ∷ [] }

abbrev pub with_waiting : PlainNode → Message → PlainNode
with_waiting n m = record n { waiting = n.waiting ++ m ∷ [] }

pub different : (x y : ℕ) → (x == y) ≡ false → x ≡ y → ⊥
different x y unequal e = false≢true (sym unequal ∙ eq-eqb x y e)
