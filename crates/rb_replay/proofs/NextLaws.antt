-- Laws of where a point stands among ascending points.
use Rattle.std.proofs.Common.{◌≡◌, ℕ, zero, suc, ◌+◌, ◌<◌, ◌≤◌, List, [], ◌∷◌, length, arith, sym, get_or, inl, inr}
use Rattle.std.specs.Prelude.{Contains}
use Rattle.std.proofs.lemmas.Bool.{cases_lt}
use Rattle.std.proofs.lemmas.List.{get_or_default}
use Rattle.rb_replay.specs.Points.{IsRising}
use Rattle.rb_replay.specs.Splices.{IsNext}

-- what stands later is greater
pub rising-first : (a k d : ℕ) (ps : List ℕ) → IsRising a ps → k < length ps → a ≤ get_or ps k d
rising-first a k d [] rising lt = absurd (omega arith)
rising-first a zero d (p ∷ ps) rising lt = rising.0
rising-first a (suc k) d (p ∷ ps) rising lt = let t : p + 1 ≤ get_or ps k d = rising-first (p + 1) k d ps rising.1 (omega arith) in omega (arith, rising.0)

pub rising-later : (a i k : ℕ) (ps : List ℕ) → IsRising a ps → i < k → k < length ps → get_or ps i 0 < get_or ps k 0
rising-later a i k [] rising lt within = absurd (omega arith)
rising-later a zero zero (p ∷ ps) rising lt within = absurd (omega arith)
rising-later a zero (suc k) (p ∷ ps) rising lt within = let t : p + 1 ≤ get_or ps k 0 = rising-first (p + 1) k 0 ps rising.1 (omega arith) in omega arith
rising-later a (suc i) zero (p ∷ ps) rising lt within = absurd (omega arith)
rising-later a (suc i) (suc k) (p ∷ ps) rising lt within = rising-later (p + 1) i k ps rising.1 (omega arith) (omega arith)

-- where one is below a bound, so are all up to it
pub below-up-to : (bound i k : ℕ) (ps : List ℕ) → IsRising 0 ps → k ≤ i → i < length ps → get_or ps i 0 < bound → get_or ps k 0 < bound
below-up-to bound i k ps rising le within low =
    elim (cases_lt k i) as (λ _. get_or ps k 0 < bound) [
      | inl lt ↦ let less : get_or ps k 0 < get_or ps i 0 = rising-later 0 k i ps rising lt within in omega arith
      | inr ge ↦ let same : i ≡ k = omega arith in rw (sym same) low
    ]

-- the point stands at the index, and the next one after it
pub next-on : (ps : List ℕ) (p i : ℕ) → IsRising 0 ps → IsNext ps p i → i < length ps → get_or ps i 0 ≡ p → IsNext ps (p + 1) (i + 1)
next-on ps p i rising next lt is = record {
  within = omega arith;
  below = λ k k_lt. elim (cases_lt k i) [
    | inl before ↦ let t : get_or ps k 0 < p = next.below k before in omega arith
    | inr after ↦ let same : k ≡ i = omega arith in rw same (omega (arith, is))
  ];
  above = λ more. let t : get_or ps i 0 < get_or ps (i + 1) 0 = rising-later 0 i (i + 1) ps rising (omega arith) more in omega (arith, is);
}

-- the point does not stand there
pub next-past : (ps : List ℕ) (p i : ℕ) → IsNext ps p i → (i < length ps → get_or ps i 0 ≡ p → ⊥) → IsNext ps (p + 1) i
next-past ps p i next differs = record {
  within = next.within;
  below = λ k lt. let t : get_or ps k 0 < p = next.below k lt in omega arith;
  above = λ more. elim (cases_lt p (get_or ps i 0)) [
    | inl lt ↦ omega arith
    | inr ge ↦ absurd (differs more (let t : p ≤ get_or ps i 0 = next.above more in omega arith))
  ];
}

pub next-none : (ps : List ℕ) (p i : ℕ) → IsRising 0 ps → IsNext ps p i → (i < length ps → get_or ps i 0 ≡ p → ⊥) → Contains ps p → ⊥
next-none ps p i rising next differs (k, lt, is) =
    let at : get_or ps k 0 ≡ p = let same : get_or ps k 0 ≡ get_or ps k p = get_or_default ps k 0 p lt in omega (arith, is) in
    elim (cases_lt k i) [
      | inl before ↦ let t : get_or ps k 0 < p = next.below k before in absurd (omega arith)
      | inr after ↦ elim (cases_lt i k) [
        | inl later ↦ let t : get_or ps i 0 < get_or ps k 0 = rising-later 0 i k ps rising later lt in let u : p ≤ get_or ps i 0 = next.above (omega arith) in absurd (omega arith)
        | inr here ↦ let same : k ≡ i = omega arith in differs (omega arith) (rw same at at)
      ]
    ]

-- a lesser point stands no later
pub next-order : (ps : List ℕ) (p q i j : ℕ) → p ≤ q → IsNext ps p i → IsNext ps q j → i ≤ j
next-order ps p q i j le one two =
    elim (cases_lt j i) [
      | inl lt ↦
          let low : get_or ps j 0 < p = one.below j lt in
          let high : q ≤ get_or ps j 0 = two.above (omega (arith, one.within)) in
          absurd (omega arith)
      | inr ge ↦ ge
    ]
