-- One element of a list becomes another, or one more comes: what holds of each element at its place
use Rattle.std.proofs.Common.{◌≡◌, ◌⊎◌, ℕ, zero, suc, ◌<◌, List, [], ◌∷◌, ◌++◌, length, Some, refl, sym, ap, subst, ◌∙◌, arith, inl, inr}
use Rattle.std.specs.Prelude.{Contains, slice_get, slice_set}
use Rattle.std.proofs.lemmas.Bool.{cases_eq}
use Rattle.std.proofs.lemmas.List.Elements.{Contains-push, Contains-push_cases, Contains-append_left, Contains-append_right, Contains-append_cases}
use Rattle.std.proofs.lemmas.Option.{none-some, same_Some}

pub some_at : {X : Type 0} (xs : List X) (k : ℕ) → k < length xs → (x : X) × (slice_get xs k ≡ Some x)
some_at [] k low = absurd (omega (arith, low))
some_at (x ∷ xs) zero low = (x, refl)
some_at (x ∷ xs) (suc k) low = some_at xs k (omega (arith, low))

pub set_here : {X : Type 0} → (xs : List X) (k : ℕ) (x y : X) → slice_get xs k ≡ Some x → slice_get (slice_set xs k y) k ≡ Some y
set_here [] k x y is = absurd (none-some x is)
set_here (a ∷ xs) zero x y is = refl
set_here (a ∷ xs) (suc k) x y is = set_here xs k x y is

pub set_elsewhere : {X : Type 0} → (xs : List X) (k j : ℕ) (y : X) → (j ≡ k → ⊥) → slice_get (slice_set xs k y) j ≡ slice_get xs j
set_elsewhere [] k j y other = refl
set_elsewhere (a ∷ xs) zero zero y other = absurd (other refl)
set_elsewhere (a ∷ xs) zero (suc j) y other = refl
set_elsewhere (a ∷ xs) (suc k) zero y other = refl
set_elsewhere (a ∷ xs) (suc k) (suc j) y other = set_elsewhere xs k j y (λ same. other (ap suc same))

pub each_set : {X : Type 0} (P : ℕ → X → Type 0) (xs : List X) (k : ℕ) (x y : X) → slice_get xs k ≡ Some x → P k y → ((j : ℕ) (z : X) → (j ≡ k → ⊥) → slice_get xs j ≡ Some z → P j z) → (j : ℕ) (z : X) → slice_get (slice_set xs k y) j ≡ Some z → P j z
each_set P xs k x y at new others j z is =
    elim (cases_eq j k) as (λ _. P j z) [
      | inl same ↦
          let there = subst (λ (i : ℕ). slice_get (slice_set xs k y) i ≡ Some z) same is in
          subst (λ (i : ℕ). P i z) (sym same) (subst (P k) (same_Some y z (sym (set_here xs k x y at) ∙ there)) new)
      | inr other ↦ others j z other (sym (set_elsewhere xs k j y other) ∙ is)
    ]

pub set_cases : {X : Type 0} (xs : List X) (k : ℕ) (y : X) (j : ℕ) (z : X) → slice_get (slice_set xs k y) j ≡ Some z → ((j ≡ k) × (z ≡ y)) ⊎ ((j ≡ k → ⊥) × (slice_get xs j ≡ Some z))
set_cases [] k y j z is = absurd (none-some z is)
set_cases (a ∷ xs) zero y zero z is = inl (refl, sym (same_Some y z is))
set_cases (a ∷ xs) zero y (suc j) z is = inr (λ same. omega (arith, same), is)
set_cases (a ∷ xs) (suc k) y zero z is = inr (λ same. omega (arith, same), is)
set_cases (a ∷ xs) (suc k) y (suc j) z is =
    elim (set_cases xs k y j z is) as (λ _. ((suc j ≡ suc k) × (z ≡ y)) ⊎ ((suc j ≡ suc k → ⊥) × (slice_get xs j ≡ Some z))) [
      | inl here ↦ inl (ap suc here.0, here.1)
      | inr there ↦ inr (λ same. there.0 (omega (arith, same)), there.1)
    ]

pub each_push : {X : Type 0} (P : ℕ → X → Type 0) (xs : List X) (x : X) → P (length xs) x → ((j : ℕ) (z : X) → slice_get xs j ≡ Some z → P j z) → (j : ℕ) (z : X) → slice_get (xs ++ x ∷ []) j ≡ Some z → P j z
each_push P [] x new others zero z is = subst (P zero) (same_Some x z is) new
each_push P [] x new others (suc j) z is = absurd (none-some z is)
each_push P (a ∷ xs) x new others zero z is = others zero z is
each_push P (a ∷ xs) x new others (suc j) z is = each_push (λ (i : ℕ). P (suc i)) xs x new (λ i y at. others (suc i) y at) j z is

pub in_nothing : {X : Type 0} → (xs : List X) (x : X) → xs ≡ [] → Contains xs x → ⊥
in_nothing xs x none among = let low : among.0 < length xs = among.1 in omega (arith, low, ap length none)

-- ---- the elements of a number, and the others

pub in_first : {X : Type 0} (x : X) (xs : List X) → Contains (x ∷ xs) x
in_first x xs = Contains-append_left (x ∷ []) xs x (Contains-push [] x)

pub in_rest : {X : Type 0} (x : X) (xs : List X) (y : X) → Contains xs y → Contains (x ∷ xs) y
in_rest x xs y among = Contains-append_right (x ∷ []) xs y among

pub first_or_rest : {X : Type 0} (x : X) (xs : List X) (y : X) → Contains (x ∷ xs) y → (x ≡ y) ⊎ Contains xs y
first_or_rest x xs y among =
    elim (Contains-append_cases (x ∷ []) xs y among) as (λ _. (x ≡ y) ⊎ Contains xs y) [
      | inr rest ↦ inr rest
      | inl first ↦ elim (Contains-push_cases [] x y first) as (λ _. (x ≡ y) ⊎ Contains xs y) [ inl none ↦ absurd (in_nothing [] y refl none) | inr same ↦ inl same ]
    ]

pub picked : {X : Type 0} (of : X → ℕ) (id : ℕ) (xs : List X) → (ys : List X) × ((x : X) → Contains ys x → Contains xs x × (of x ≡ id)) × ((x : X) → Contains xs x → of x ≡ id → Contains ys x)
picked of id [] = ([], λ x among. absurd (in_nothing [] x refl among), λ x among _. among)
picked {X} of id (x ∷ xs) =
    let r = picked of id xs in
    elim (cases_eq (of x) id) as (λ _. (ys : List X) × ((y : X) → Contains ys y → Contains (x ∷ xs) y × (of y ≡ id)) × ((y : X) → Contains (x ∷ xs) y → of y ≡ id → Contains ys y)) [
      | inl same ↦ (
        x ∷ r.0,
        λ y among. elim (first_or_rest x r.0 y among) as (λ _. Contains (x ∷ xs) y × (of y ≡ id)) [
          | inl is ↦ (subst (Contains (x ∷ xs)) is (in_first x xs), subst (λ (z : X). of z ≡ id) is same)
          | inr rest ↦ (let k = r.1 y rest in (in_rest x xs y k.0, k.1))
        ],
        λ y among own. elim (first_or_rest x xs y among) as (λ _. Contains (x ∷ r.0) y) [
          | inl is ↦ subst (Contains (x ∷ r.0)) is (in_first x r.0)
          | inr rest ↦ in_rest x r.0 y (r.2 y rest own)
        ],
      )
      | inr other ↦ (
        r.0,
        λ y among. (let k = r.1 y among in (in_rest x xs y k.0, k.1)),
        λ y among own. elim (first_or_rest x xs y among) as (λ _. Contains r.0 y) [
          | inl is ↦ absurd (other (subst (λ (z : X). of z ≡ id) (sym is) own))
          | inr rest ↦ r.2 y rest own
        ],
      )
    ]

pub left_out : {X : Type 0} (of : X → ℕ) (id : ℕ) (xs : List X) → (ys : List X) × ((x : X) → Contains ys x → Contains xs x × (of x ≡ id → ⊥)) × ((x : X) → Contains xs x → (of x ≡ id → ⊥) → Contains ys x)
left_out of id [] = ([], λ x among. absurd (in_nothing [] x refl among), λ x among _. among)
left_out {X} of id (x ∷ xs) =
    let r = left_out of id xs in
    elim (cases_eq (of x) id) as (λ _. (ys : List X) × ((y : X) → Contains ys y → Contains (x ∷ xs) y × (of y ≡ id → ⊥)) × ((y : X) → Contains (x ∷ xs) y → (of y ≡ id → ⊥) → Contains ys y)) [
      | inr other ↦ (
        x ∷ r.0,
        λ y among. elim (first_or_rest x r.0 y among) as (λ _. Contains (x ∷ xs) y × (of y ≡ id → ⊥)) [
          | inl is ↦ (subst (Contains (x ∷ xs)) is (in_first x xs), subst (λ (z : X). of z ≡ id → ⊥) is other)
          | inr rest ↦ (let k = r.1 y rest in (in_rest x xs y k.0, k.1))
        ],
        λ y among own. elim (first_or_rest x xs y among) as (λ _. Contains (x ∷ r.0) y) [
          | inl is ↦ subst (Contains (x ∷ r.0)) is (in_first x r.0)
          | inr rest ↦ in_rest x r.0 y (r.2 y rest own)
        ],
      )
      | inl same ↦ (
        r.0,
        λ y among. (let k = r.1 y among in (in_rest x xs y k.0, k.1)),
        λ y among own. elim (first_or_rest x xs y among) as (λ _. Contains r.0 y) [
          | inl is ↦ absurd (own (subst (λ (z : X). of z ≡ id) is same))
          | inr rest ↦ r.2 y rest own
        ],
      )
    ]
