-- Texts that are added one after another.
use Rattle.std.proofs.Common.{◌≡◌, ℕ, ◌+◌, List, ◌∷◌, ◌++◌, [], drop, Some, ap, sym, ◌∙◌, append_assoc}
use Rattle.std.specs.Prelude.{slice_get}
use Rattle.std.proofs.lemmas.List.{drop_more}
use Rattle.std.proofs.lemmas.Option.{slice_get_within, get_or_from_slice_get}
use Rattle.rb_script.specs.Lines.{Line}

-- the first of what is left
pub left_some : {X : Type 0} → (xs : List X) (i : ℕ) (x : X) → slice_get xs i ≡ Some x → drop i xs ≡ x ∷ drop (i + 1) xs
left_some {X} xs i x got = drop_more xs i x (slice_get_within xs i x got) ∙ ap (λ (y : X). y ∷ drop (i + 1) xs) (get_or_from_slice_get xs i x x got)

-- what one element adds is there, and one less is left
pub one_more : {X : Type 0} → (of : List X → List Line) (xs : List X) (i : ℕ) (x : X) (first before after all : List Line)
    → of (x ∷ drop (i + 1) xs) ≡ first ++ of (drop (i + 1) xs) → slice_get xs i ≡ Some x → after ≡ before ++ first → before ++ of (drop i xs) ≡ all → after ++ of (drop (i + 1) xs) ≡ all
one_more {X} of xs i x first before after all splits got adds inv =
    let rest : List Line = of (drop (i + 1) xs) in
    ap (λ (l : List Line). l ++ rest) adds ∙ append_assoc before first rest ∙ ap (λ (l : List Line). before ++ l) (sym splits)
    ∙ ap (λ (l : List X). before ++ of l) (sym (left_some xs i x got)) ∙ inv
