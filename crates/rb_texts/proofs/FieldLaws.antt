-- Lists of what each element of a list becomes, in two steps.
use Rattle.std.proofs.Common.{◌≡◌, ◌∙◌, List, [], ◌∷◌, ◌++◌, refl, ap, sym}
use Rattle.std.specs.List.{flat_map}
use Rattle.std.proofs.lemmas.List.Concat.{flat_map-append}

-- each element of a list by what it becomes
pub in_turn : {X Y Z : Type 0} (f : Y → List Z) (g : X → List Y) (xs : List X) → flat_map (λ (x : X). flat_map f (g x)) xs ≡ flat_map f (flat_map g xs)
in_turn f g [] = refl
in_turn {X} {Y} {Z} f g (x ∷ xs) = ap (λ (l : List Z). flat_map f (g x) ++ l) (in_turn f g xs) ∙ sym (flat_map-append f (g x) (flat_map g xs))
