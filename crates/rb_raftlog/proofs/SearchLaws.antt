-- Laws of a search for the first of some entries that passes a test. They go to one index after another.
use Rattle.std.proofs.Common.{◌≡◌, ℕ, zero, suc, ◌+◌, ◌<◌, Bool, true, false, List, [], ◌∷◌, Option, Some, None, refl, sym, ◌∙◌, arith, if◌then◌else◌, inl, inr}
use Rattle.std.proofs.lemmas.Bool.{cases_Bool}
use Rattle.std.specs.List.{slice_get}
use Rattle.rb_raftlog.specs.declared.entry.Entry.{Entry}

-- the index at which the first goes that passes, from i on
abbrev pub first_that : (ℕ → Entry → Bool) → ℕ → List Entry → Option ℕ
first_that p i [] = None
first_that p i (e ∷ es) = if p i e then Some i else first_that p (i + 1) es

-- what the search finds
pub record Finds (p : ℕ → Entry → Bool) (i : ℕ) (es : List Entry) (c : ℕ) : Type 0 where
  pub place : ℕ
  pub at : c ≡ i + place
  pub entry : Entry
  pub is_entry : slice_get es place ≡ Some entry
  pub here : p (i + place) entry ≡ true
  pub none : (k : ℕ) (e : Entry) → k < place → slice_get es k ≡ Some e → p (i + k) e ≡ false

none_before : (p : ℕ → Entry → Bool) (i : ℕ) (y : Entry) (es : List Entry) (place : ℕ) → p i y ≡ false
    → ((k : ℕ) (e : Entry) → k < place → slice_get es k ≡ Some e → p (i + 1 + k) e ≡ false) → (k : ℕ) (e : Entry) → k < suc place → slice_get (y ∷ es) k ≡ Some e
    → p (i + k) e ≡ false
none_before p i y es place fails rest zero e low at = let same : y ≡ e = cc in let index : i + zero ≡ i = omega arith in rw (index, ← same) fails
none_before p i y es place fails rest (suc k) e low at = let index : i + suc k ≡ i + 1 + k = omega arith in rw index (rest k e (omega (arith, low)) at)

pub finds : (p : ℕ → Entry → Bool) (es : List Entry) (i c : ℕ) → first_that p i es ≡ Some c → Finds p i es c
finds p [] i c h = cc
finds p (y ∷ es) i c h =
    elim (cases_Bool (p i y)) as (λ _. Finds p i (y ∷ es) c) [
      | inl is ↦
          let found : Some i ≡ Some c = rw is at h in
          let index : i + zero ≡ i = omega arith in
          let same : c ≡ i = cc in
          record { place = zero; at = same ∙ sym index; entry = y; is_entry = refl; here = rw index is; none = λ k e low at. absurd (omega (arith, low)) }
      | inr fails ↦
          let later = finds p es (i + 1) c (rw fails at h) in
          let index : i + suc later.place ≡ i + 1 + later.place = omega arith in
          record {
            place = suc later.place;
            at = later.at ∙ sym index;
            entry = later.entry;
            is_entry = later.is_entry;
            here = rw index later.here;
            none = none_before p i y es later.place fails later.none;
          }
    ]

-- where it finds nothing, none passes
pub finds_none : (p : ℕ → Entry → Bool) (es : List Entry) (i k : ℕ) (e : Entry) → first_that p i es ≡ None → slice_get es k ≡ Some e → p (i + k) e ≡ false
finds_none p [] i k e h at = cc
finds_none p (y ∷ es) i k e h at =
    elim (cases_Bool (p i y)) as (λ _. p (i + k) e ≡ false) [
      | inl is ↦ let no : Some i ≡ None = rw is at h in cc
      | inr fails ↦ none_before p i y es k fails (λ m x low there. finds_none p es (i + 1) m x (rw fails at h) there) k e (omega arith) at
    ]

-- and the other way round
pub finds_nothing : (p : ℕ → Entry → Bool) (es : List Entry) (i : ℕ) → ((k : ℕ) (e : Entry) → slice_get es k ≡ Some e → p (i + k) e ≡ false) → first_that p i es ≡ None
finds_nothing p [] i h = refl
finds_nothing p (y ∷ es) i h =
    let index : i + zero ≡ i = omega arith in
    let fails : p i y ≡ false = rw index at (h zero y refl) in
    rw fails (finds_nothing p es (i + 1) (λ k e at. (let next : i + suc k ≡ i + 1 + k = omega arith in rw next at (h (suc k) e at))))
