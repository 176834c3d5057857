-- Lemmas on counts
use Rattle.std.proofs.Common.{◌≡◌, ℕ, ◌+◌, Bool, true, false, cond, List, [], ◌∷◌, length, map, refl, ap, sym, ◌∙◌, arith}
use Rattle.std.specs.List.{count_by}
use Rattle.std.proofs.lemmas.List.Sums.{sum_by-cons}

pub count-cons : (p : ℕ → Bool) (x : ℕ) (xs : List ℕ) → count_by p (x ∷ xs) ≡ cond (p x) 1 0 + count_by p xs
count-cons p x xs = sum_by-cons (λ y. cond (p y) 1 0) x xs

pub count_same : (p q : ℕ → Bool) (xs : List ℕ) → ((x : ℕ) → p x ≡ q x) → count_by p xs ≡ count_by q xs
count_same p q [] same = refl
count_same p q (x ∷ xs) same = rw (count-cons p x xs, count-cons q x xs, same x, count_same p q xs same) refl

pub count_all : (p : ℕ → Bool) (xs : List ℕ) → ((x : ℕ) → p x ≡ true) → count_by p xs ≡ length xs
count_all p [] all = refl
count_all p (x ∷ xs) all = rw (count-cons p x xs, all x, count_all p xs all) (omega arith)

pub count_none : (p : ℕ → Bool) (xs : List ℕ) → ((x : ℕ) → p x ≡ false) → count_by p xs ≡ 0
count_none p [] none = refl
count_none p (x ∷ xs) none = rw (count-cons p x xs, none x, count_none p xs none) refl

pub count_map : (f : ℕ → ℕ) (p : ℕ → Bool) (xs : List ℕ) → count_by p (map f xs) ≡ count_by (λ x. p (f x)) xs
count_map f p [] = refl
count_map f p (x ∷ xs) = count-cons p (f x) (map f xs) ∙ ap (λ n. cond (p (f x)) 1 0 + n) (count_map f p xs) ∙ sym (count-cons (λ y. p (f y)) x xs)
