-- One effect after another, for each of a list: one more is done, and one less is left.
use Rattle.std.proofs.Common.{◌≡◌, ℕ, ◌+◌, ◌<◌, List, [], ◌∷◌, ◌++◌, length, drop, get_or, append_assoc, append-nil, refl, ap, sym, ◌∙◌}
use Rattle.std.specs.Prelude.{fold}
use Rattle.std.proofs.lemmas.List.{at_drop_more}
use Rattle.rb_node.specs.Node.{PlainNode}
use Rattle.rb_texts.specs.Items.{PlainItem}
use Rattle.rb_machine.specs.Cluster.{Cluster}
use Rattle.rb_machine.specs.Effects.{Effect, quiet, followed_by, each}
use Rattle.rb_machine.specs.Observations.{Observation}
use Rattle.rb_machine.specs.Observers.{Watched, watched, after}
use Rattle.rb_machine.proofs.EffectLaws.{then_shown, both_shown}

-- the first of what is left
pub first_of : {X Y : Type 0} (taking : Y → PlainItem → Y) (settling : Y → ℕ → PlainNode → Y) (one : Cluster → X → Effect) (x : X) (xs : List X) (before next : Watched Y)
    → next ≡ after taking settling before.by (one before.cluster x) → after taking settling before.by (each one before.cluster (x ∷ xs)) ≡ after taking settling next.by (each one next.cluster xs)
first_of {X} {Y} taking settling one x xs before next is =
    then_shown taking settling before.by (one before.cluster x) (λ c. each one c xs)
    ∙ ap (λ (w : Watched Y). after taking settling w.by (each one w.cluster xs)) (sym is)

pub each_next : {X Y : Type 0} (taking : Y → PlainItem → Y) (settling : Y → ℕ → PlainNode → Y) (one : Cluster → X → Effect) (xs : List X) (i : ℕ) (d : X) (before next : Watched Y) → i < length xs
    → next ≡ after taking settling before.by (one before.cluster (get_or xs i d))
    → after taking settling before.by (each one before.cluster (drop i xs)) ≡ after taking settling next.by (each one next.cluster (drop (i + 1) xs))
each_next {X} {Y} taking settling one xs i d before next low is =
    (at_drop_more (λ (l : List X). after taking settling before.by (each one before.cluster l)) xs i d low)
    ∙ first_of taking settling one (get_or xs i d) (drop (i + 1) xs) before next is

-- one more at the end
each_onto : {X : Type 0} (one : Cluster → X → Effect) (c : Cluster) (xs : List X) (x : X) → each one c (xs ++ x ∷ []) ≡ followed_by (each one c xs) (λ last. one last x)
each_onto one c [] x = ap (λ (observed : List Observation). record (one c x) { observed = observed }) (append-nil (one c x).observed)
each_onto {X} one c (y ∷ xs) x =
    let e : Effect = one c y in
    let rest : Effect = each one e.cluster xs in
    ap (λ (r : Effect). record r { observed = e.observed ++ r.observed }) (each_onto one e.cluster xs x)
    ∙ ap (λ (observed : List Observation). record (one rest.cluster x) { observed = observed }) (sym (append_assoc e.observed rest.observed (one rest.cluster x).observed))

pub each_more : {X Y : Type 0} (taking : Y → PlainItem → Y) (settling : Y → ℕ → PlainNode → Y) (one : Cluster → X → Effect) (by : Y) (c : Cluster) (xs : List X) (x : X) (before next : Watched Y)
    → before ≡ after taking settling by (each one c xs) → next ≡ after taking settling before.by (one before.cluster x) → next ≡ after taking settling by (each one c (xs ++ x ∷ []))
each_more taking settling one by c xs x before next first second =
    both_shown taking settling by (each one c xs) (λ last. one last x) before next first second
    ∙ ap (after taking settling by) (sym (each_onto one c xs x))
