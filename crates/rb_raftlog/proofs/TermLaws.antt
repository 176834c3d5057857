-- Laws of what is held at an index.
use Rattle.std.proofs.Common.{◌≡◌, ℕ, zero, suc, ◌+◌, ◌-◌, ◌<◌, ◌≤◌, true, List, [], ◌∷◌, ◌++◌, length, take, drop, Result, Ok, Err, refl, ap, sym, ◌∙◌, arith, eqb, ltb, leb, inl, inr}
use Rattle.std.proofs.lemmas.Bool.{le-ltb, lt-ltb, lt-leb, le-leb, ne_eqb, eq-eqb, eqb-true, cond-true, cond-false, cases_order, false≢true}
use Rattle.std.proofs.lemmas.Bool.Decides.{nat_tests}
use Rattle.std.proofs.lemmas.List.{length-take-le}
use Rattle.std.proofs.lemmas.Option.{slice_get_cases}
use Rattle.std.specs.List.{slice_get}
use Rattle.rb_raftlog.specs.declared.raft_log.LogFault.{LogFault}
use Rattle.rb_raftlog.specs.declared.raft_log.LogFault.TheVariants.{Compacted}
use Rattle.rb_raftlog.specs.Log.{LogValue, last, term_at, term_of, entry_at, found, is_term}

-- ---- below the base, at it, and past it

pub term_below : (v : LogValue) (i : ℕ) → i < v.base → term_at v i ≡ Err Compacted
term_below v i h = cond-true (ltb i v.base) _ _ (lt-ltb i v.base h)

pub term_base : (v : LogValue) → term_at v v.base ≡ Ok v.base_term
term_base v = cond-false (ltb v.base v.base) _ _ (le-ltb v.base v.base (omega arith)) ∙ cond-true (eqb v.base v.base) _ _ (eq-eqb v.base v.base refl)

pub term_past : (v : LogValue) (k : ℕ) → term_at v (v.base + 1 + k) ≡ term_of (slice_get v.entries k)
term_past v k =
    cond-false (ltb (v.base + 1 + k) v.base) _ _ (le-ltb (v.base + 1 + k) v.base (omega arith))
    ∙ cond-false (eqb (v.base + 1 + k) v.base) _ _ (ne_eqb (v.base + 1 + k) v.base (λ e. omega arith))
    ∙ ap (λ (n : ℕ). term_of (slice_get v.entries n)) (omega arith)

pub entry_below : (v : LogValue) (i : ℕ) → i ≤ v.base → entry_at v i ≡ Err Compacted
entry_below v i h = cond-true (leb i v.base) _ _ (le-leb i v.base h)

pub entry_past : (v : LogValue) (k : ℕ) → entry_at v (v.base + 1 + k) ≡ found (slice_get v.entries k)
entry_past v k =
    cond-false (leb (v.base + 1 + k) v.base) _ _ (lt-leb (v.base + 1 + k) v.base (omega arith))
    ∙ ap (λ (n : ℕ). found (slice_get v.entries n)) (omega arith)

-- what holds below a base, at it and past it holds of every index
pub by_index : (base : ℕ) (P : ℕ → Type 0) → ((i : ℕ) → i < base → P i) → P base → ((k : ℕ) → P (base + 1 + k)) → (i : ℕ) → P i
by_index base P below at past i =
    elim (cases_order i base) as (λ _. P i) [
      | inl same ↦ rw same at
      | inr apart ↦
          elim apart as (λ _. P i) [
            | inl low ↦ below i low
            | inr high ↦ let e : i ≡ base + 1 + (i - base - 1) = omega arith in rw e (past (i - base - 1))
          ]
    ]

-- ---- places of lists

pub slice_get_left : {X : Type 0} → (xs ys : List X) (k : ℕ) → k < length xs → slice_get (xs ++ ys) k ≡ slice_get xs k
slice_get_left {X} [] ys k low = absurd (omega (arith, low))
slice_get_left {X} (x ∷ xs) ys zero low = refl
slice_get_left {X} (x ∷ xs) ys (suc k) low = slice_get_left xs ys k (omega (arith, low))

pub slice_get_taken : {X : Type 0} → (xs : List X) (n k : ℕ) → k < n → slice_get (take n xs) k ≡ slice_get xs k
slice_get_taken {X} xs zero k low = absurd (omega (arith, low))
slice_get_taken {X} [] (suc n) k low = refl
slice_get_taken {X} (x ∷ xs) (suc n) zero low = refl
slice_get_taken {X} (x ∷ xs) (suc n) (suc k) low = slice_get_taken xs n k (omega (arith, low))

pub slice_get_front : {X : Type 0} → (xs ys : List X) (n k : ℕ) → k < n → n ≤ length xs → slice_get (take n xs ++ ys) k ≡ slice_get xs k
slice_get_front {X} xs ys n k low high = slice_get_left (take n xs) ys k (omega (arith, low, length-take-le n xs high)) ∙ slice_get_taken xs n k low

pub slice_get_back : {X : Type 0} → (xs ys : List X) (n k : ℕ) → length xs ≡ n → slice_get (xs ++ ys) (n + k) ≡ slice_get ys k
slice_get_back {X} [] ys n k e = ap (λ (m : ℕ). slice_get ys m) (omega (arith, e))
slice_get_back {X} (x ∷ xs) ys zero k e = absurd (omega (arith, e))
slice_get_back {X} (x ∷ xs) ys (suc n) k e =
    let next : suc n + k ≡ suc (n + k) = omega arith in
    ap (λ (m : ℕ). slice_get (x ∷ (xs ++ ys)) m) next ∙ slice_get_back xs ys n k (omega (arith, e))

pub slice_get_drop : {X : Type 0} → (xs : List X) (n k : ℕ) → slice_get (drop n xs) k ≡ slice_get xs (n + k)
slice_get_drop {X} xs zero k = ap (λ (m : ℕ). slice_get xs m) (omega arith)
slice_get_drop {X} [] (suc n) k = refl
slice_get_drop {X} (x ∷ xs) (suc n) k =
    let next : suc n + k ≡ suc (n + k) = omega arith in
    slice_get_drop xs n k ∙ sym (ap (λ (m : ℕ). slice_get (x ∷ xs) m) next)

-- ---- logs that have the same, up to an index

pub record IsSameUpTo (v w : LogValue) (n : ℕ) : Type 0 where
  pub base : w.base ≡ v.base
  pub base_term : w.base_term ≡ v.base_term
  pub entries : (k : ℕ) → v.base + 1 + k ≤ n → slice_get w.entries k ≡ slice_get v.entries k

pub same_term : (v w : LogValue) (n i : ℕ) → IsSameUpTo v w n → i ≤ n → term_at w i ≡ term_at v i
same_term v w n i same low = grind (arith, nat_tests, same.entries (i - v.base - 1))

pub same_entry : (v w : LogValue) (n i : ℕ) → IsSameUpTo v w n → i ≤ n → entry_at w i ≡ entry_at v i
same_entry v w n i same low = grind (arith, nat_tests, same.entries (i - v.base - 1))

-- ---- terms

pub is_term_is : (r : Result ℕ LogFault) (t : ℕ) → is_term r t ≡ true → r ≡ Ok t
is_term_is (Ok held) t h = ap (λ (n : ℕ). Ok n) (eqb-true held t h)
is_term_is (Err f) t h = absurd (false≢true h)

pub is_term_from : (r : Result ℕ LogFault) (t : ℕ) → r ≡ Ok t → is_term r t ≡ true
is_term_from r t e = ap (λ (x : Result ℕ LogFault). is_term x t) e ∙ eq-eqb t t refl

-- where there is a term, the index is from the base to the last
pub held_in : (v : LogValue) (i t : ℕ) → term_at v i ≡ Ok t → (v.base ≤ i) × (i ≤ last v)
held_in v i t e = grind (arith, nat_tests, slice_get_cases v.entries (i - v.base - 1))
