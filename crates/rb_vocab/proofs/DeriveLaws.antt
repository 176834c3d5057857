-- A comparison that a derive writes for an enum decides equality, where that of each variant's fields does.
use Rattle.std.specs.Prelude.{◌≡◌, Bool, true, false, ◌&&◌, List, [], ◌∷◌, ⊤}
use Rattle.std.specs.Cmp.{first_so, second_so}
use Rattle.std.specs.Cmp.Derive.{both_true}
use Rattle.std.specs.Bool.{Decides}
use mathlib.Core.Path.{ap, sym, subst}
use mathlib.Core.Bool.{true≢false}
use mathlib.Core.Logic.{◌⊎◌, inl, inr}
use denote.Struct.Field.{Field}
use denote.Struct.Values.{Values}
use denote.Enum.Declared.{Record, Choice, values_one, left_or, right_or}
use denote.Enum.Compared.{Each, by}

abbrev OnLeft : {A B : Type 0} → A ⊎ B → Type 0
OnLeft (inl x) = ⊤
OnLeft (inr y) = ⊥

abbrev pub Deciding : (Fss : List (List Field)) → Each Bool Fss → Type 0
Deciding [] es = ⊤
Deciding (Fs ∷ Fss) es = ((x y : Values Fs) → Decides (es.0 x y) (x ≡ y)) × Deciding Fss es.1

choices_decide : (Fss : List (List Field)) (es : Each Bool Fss) → Deciding Fss es → (c d : Choice Fss) → Decides (by false false Fss es c d) (c ≡ d)
choices_decide [] es all c d = absurd c
choices_decide (Fs ∷ Fss) es all (inl x) (inl y) = (λ e. ap inl ((all.0 x y).0 e), λ e. (all.0 x y).1 (ap (left_or x) e))
choices_decide (Fs ∷ Fss) es all (inl x) (inr d) = (λ e. absurd (true≢false (sym e)), λ e. absurd (subst OnLeft e tt))
choices_decide (Fs ∷ Fss) es all (inr c) (inl y) = (λ e. absurd (true≢false (sym e)), λ e. absurd (subst OnLeft (sym e) tt))
choices_decide (Fs ∷ Fss) es all (inr c) (inr d) =
    let rest = choices_decide Fss es.1 all.1 c d in
    (λ e. ap inr (rest.0 e), λ e. rest.1 (ap (right_or c) e))

pub values_decide : (N : Record) (es : Each Bool N.parts) → Deciding N.parts es → (x y : N.D) → Decides (by false false N.parts es (N.as_values x) (N.as_values y)) (x ≡ y)
values_decide N es all x y =
    let known = choices_decide N.parts es all (N.as_values x) (N.as_values y) in
    (λ e. values_one N x y (known.0 e), λ e. known.1 (ap N.as_values e))

-- Rows of fields: one field, and one before others.
pub one : {A : Type 0} {E : A → A → Bool} → ((x y : A) → Decides (E x y) (x ≡ y)) → (x y : A × Unit {0}) → Decides (E x.0 y.0) (x ≡ y)
one d x y = (λ e. λ i. ((d x.0 y.0).0 e i, tt), λ e. (d x.0 y.0).1 (ap (λ r. r.0) e))

pub next : {A B : Type 0} {E : A → A → Bool} {F : B → B → Bool} → ((x y : A) → Decides (E x y) (x ≡ y)) → ((x y : B) → Decides (F x y) (x ≡ y)) → (x y : A × B) → Decides (E x.0 y.0 && F x.1 y.1) (x ≡ y)
next {A} {B} {E} {F} d f x y = (
  λ e. λ i. ((d x.0 y.0).0 (first_so (E x.0 y.0) (F x.1 y.1) e) i, (f x.1 y.1).0 (second_so (E x.0 y.0) (F x.1 y.1) e) i),
  λ e. both_true ((d x.0 y.0).1 (ap (λ r. r.0) e)) ((f x.1 y.1).1 (ap (λ r. r.1) e)),
)
