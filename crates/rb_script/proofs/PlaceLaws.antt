-- The first of the places of a byte.
use Rattle.std.proofs.Common.{◌≡◌, ◌≢◌, ℕ, zero, suc, ◌+◌, ◌-◌, ◌<◌, Bool, true, false, cond, List, [], ◌∷◌, length, get_or, eqb-true, eq-eqb, sym, ap, subst, ◌∙◌, arith, inl, inr}
use Rattle.std.proofs.lemmas.Bool.{cases_Bool, cases_eq, false≢true}
use Rattle.std.specs.Prelude.{Option, Some, None, IfSome, IfNone}
use Rattle.memchr.specs.Find.{TakesFirst, Passes, Nowhere, IsFirst, is_byte, places_from, places}

module _ (test : ℕ → Bool) (hay : List ℕ) where
  -- where a byte fails, and none behind it passes
  nowhere_more : (i j : ℕ) → test (get_or hay i 0) ≡ false → Nowhere (Passes test hay) (i + 1) j → Nowhere (Passes test hay) i j
  nowhere_more i j fails later k low high passes =
      elim (cases_eq k i) [
        | inl here ↦ absurd (false≢true (sym fails ∙ ap (λ (n : ℕ). test (get_or hay n 0)) (sym here) ∙ passes))
        | inr other ↦ later k (omega arith) high passes
      ]

  first_here : (i n : ℕ) (found : Option ℕ) (later rest : List ℕ) → Passes test hay i → TakesFirst (i ∷ later) found rest → IsFirst (Passes test hay) i (i + suc n) found
  first_here i n None later rest passes e = let none : i ∷ later ≡ [] = e.0 in absurd cc
  first_here i n (Some k) later rest passes e =
      let same : i ≡ k = cc e in
      (record { low = omega arith; high = omega arith; before = λ j low lt. absurd (omega arith) }, subst (Passes test hay) same passes)

  first_behind : (i n : ℕ) (found : Option ℕ) → test (get_or hay i 0) ≡ false → IsFirst (Passes test hay) (i + 1) (i + 1 + n) found → IsFirst (Passes test hay) i (i + suc n) found
  first_behind i n None fails later = λ k low high. nowhere_more i (i + 1 + n) fails later k low (omega arith)
  first_behind i n (Some k) fails later = (record { low = omega (arith, later.0.low); high = omega (arith, later.0.high); before = nowhere_more i k fails later.0.before }, later.1)

  -- the first place is one that passes, and none before it does
  first_place : (i n : ℕ) (found : Option ℕ) (rest : List ℕ) → TakesFirst (places_from test hay i n) found rest → IsFirst (Passes test hay) i (i + n) found
  unfolding places_from
  first_place i zero None rest e = λ k low high. absurd (omega arith)
  first_place i zero (Some k) rest e = absurd cc
  first_place i (suc n) found rest e =
      let later = places_from test hay (i + 1) n in
      let is : (b : Bool) → test (get_or hay i 0) ≡ b → TakesFirst (cond b (i ∷ later) later) found rest = λ b h. subst (λ t. TakesFirst (cond t (i ∷ later) later) found rest) h e in
      elim (cases_Bool (test (get_or hay i 0))) [
        | inl t ↦ first_here i n found later rest t (is true t)
        | inr f ↦ first_behind i n found f (first_place (i + 1) n found rest (is false f))
      ]

-- ---- what a search of all bytes answers

module _ (byte : ℕ) (hay : List ℕ) where
  pub found_none : (found : Option ℕ) (rest : List ℕ) → TakesFirst (places (is_byte byte) hay) found rest → IfNone found ((k : ℕ) → k < length hay → get_or hay k 0 ≢ byte)
  found_none None rest e = λ k lt same. first_place (is_byte byte) hay 0 (length hay - 0) None rest e k (omega arith) (omega arith) (eq-eqb (get_or hay k 0) byte same)
  found_none (Some k) rest e = tt

  pub found_some : (found : Option ℕ) (rest : List ℕ) → TakesFirst (places (is_byte byte) hay) found rest → IfSome found (λ k. (k < length hay) × (get_or hay k 0 ≡ byte))
  found_some None rest e = tt
  found_some (Some k) rest e = let at = first_place (is_byte byte) hay 0 (length hay - 0) (Some k) rest e in (omega (arith, at.0.high), eqb-true (get_or hay k 0) byte at.1)

  pub found_first : (found : Option ℕ) (rest : List ℕ) → TakesFirst (places (is_byte byte) hay) found rest → IfSome found (λ k. (j : ℕ) → j < k → get_or hay j 0 ≢ byte)
  found_first None rest e = tt
  found_first (Some k) rest e = let at = first_place (is_byte byte) hay 0 (length hay - 0) (Some k) rest e in λ j lt same. at.0.before j (omega arith) lt (eq-eqb (get_or hay j 0) byte same)
