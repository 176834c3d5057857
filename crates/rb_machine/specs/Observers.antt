-- Observers. The state of an observer is of any type; taking an item, or a node, changes it. (This project's.)
use Rattle.std.specs.Prelude.{ℕ, List, fold}
use Rattle.rb_node.specs.Node.{PlainNode}
use Rattle.rb_vocab.specs.declared.level.Level.{Level}
use Rattle.rb_texts.specs.Items.{PlainItem}
use Rattle.rb_machine.specs.Cluster.{Cluster}
use Rattle.rb_machine.specs.Effects.{Effect}
use Rattle.rb_machine.specs.Observations.{observing}
use Rattle.rb_machine.specs.Outcome.{Execution}

-- a cluster and its observer
pub record Watched (X : Type 0) : Type 0 where
  pub cluster : Cluster
  pub by : X

abbrev pub watched : {X : Type 0} → Cluster → X → Watched X
watched c by = record { cluster = c; by = by }

-- the cluster after an effect, and the observer after all that is observed
abbrev pub after : {X : Type 0} → (X → PlainItem → X) → (X → ℕ → PlainNode → X) → X → Effect → Watched X
after taking settling by e = watched e.cluster (fold (observing taking settling) by e.observed)

-- the same for a directive: the observer gets the level first
abbrev pub after_directive : {X : Type 0} → (X → Level → X) → (X → PlainItem → X) → (X → ℕ → PlainNode → X) → X → Execution → Watched X
after_directive starting taking settling by h = watched h.cluster (fold (observing taking settling) (starting by h.level) h.observed)
