-- Laws of kept points.
use Rattle.std.proofs.Common.{◌≡◌, ℕ, zero, suc, ◌+◌, ◌-◌, ◌*◌, ◌/◌, ◌<◌, ◌≤◌, max, List, [], ◌∷◌, length, refl, arith, ◌⊎◌, inl, inr, get_or, add-one}
use Rattle.std.specs.Prelude.{Contains, All}
use Rattle.std.proofs.lemmas.Bool.Decides.{leb_tells}
use Rattle.std.proofs.lemmas.Bool.{cases_lt}
use Rattle.std.proofs.lemmas.List.Elements.{All-nil, All-cons, All-head}
use Rattle.std.proofs.Math.Nat.{le-div_iff_mul-le}
use Rattle.rb_replay.specs.Points.{last_up_to, thin, thin_after, AreNear, AreSparse, AreSparseAfter, AreKept}

-- thinning leaves no step longer than K
pub thin_after-near : (K n kept p : ℕ) (ps : List ℕ) → kept < p → p ≤ kept + K → AreNear K n p ps → AreNear K n kept (thin_after K kept p ps)
thin_after-near K n kept p [] a b h = (a, b, h)
thin_after-near K n kept p (next ∷ ps) a b h =
    elim (leb_tells (next - kept) K) [
      | inl t ↦ rw t.0 (thin_after-near K n kept next ps (omega arith) (omega arith) h.2)
      | inr f ↦ rw f.0 (a, b, thin_after-near K n p next ps h.0 h.1 h.2)
    ]

-- a list begins at x or later
abbrev pub StartsFrom : ℕ → List ℕ → Type 0
StartsFrom x [] = Unit {0}
StartsFrom x (p ∷ ps) = x ≤ p

thin_after-starts : (K n kept p : ℕ) (ps : List ℕ) (x : ℕ) → x ≤ p → AreNear K n p ps → StartsFrom x (thin_after K kept p ps)
thin_after-starts K n kept p [] x b h = b
thin_after-starts K n kept p (next ∷ ps) x b h =
    elim (leb_tells (next - kept) K) [
      | inl t ↦ rw t.0 (thin_after-starts K n kept next ps x (omega arith) h.2)
      | inr f ↦ rw f.0 b
    ]

sparse_before : (K a b next : ℕ) (ps : List ℕ) → a + K < next → StartsFrom next ps → AreSparseAfter K b ps → AreSparse K a b ps
sparse_before K a b next [] far h s = tt
sparse_before K a b next (c ∷ ps) far h s = (omega arith, s)

-- thinning leaves two points with one between them more than K apart
pub thin_after-sparse : (K n kept p : ℕ) (ps : List ℕ) → kept < p → AreNear K n p ps → AreSparseAfter K kept (thin_after K kept p ps)
thin_after-sparse K n kept p [] a h = tt
thin_after-sparse K n kept p (next ∷ ps) a h =
    elim (leb_tells (next - kept) K) [
      | inl t ↦ rw t.0 (thin_after-sparse K n kept next ps (omega arith) h.2)
      | inr f ↦ rw f.0 (sparse_before K kept p next (thin_after K p next ps) (omega arith) (thin_after-starts K n p next ps next (omega arith) h.2) (thin_after-sparse K n p next ps h.0 h.2))
    ]

-- near points from 0 on
abbrev pub StartNear : ℕ → ℕ → List ℕ → Type 0
StartNear K n [] = ⊥
StartNear K n (p ∷ ps) = (p ≡ 0) × AreNear K n p ps

-- thinned, they are the kept points of a script
pub thin-kept : (K n : ℕ) (ps : List ℕ) → StartNear K n ps → AreKept K n (thin K ps)
thin-kept K n [] h = absurd h
thin-kept K n (p ∷ []) h = (h.0, h.1, tt)
thin-kept K n (p ∷ next ∷ ps) h = (h.0, thin_after-near K n p next ps h.1.0 h.1.1 h.1.2, thin_after-sparse K n p next ps h.1.0 h.1.2)

-- every second point is more than K on
far_apart : (K n a b : ℕ) (ps : List ℕ) → a < b → AreNear K n b ps → AreSparse K a b ps → ((j : ℕ) → 2 * j ≤ length ps + 1 → a + j * (K + 1) ≤ n) × ((j : ℕ) → 2 * j ≤ length ps → b + j * (K + 1) ≤ n)
far_apart K n a b [] lt near sparse = (λ j h. let z : j ≡ 0 = omega arith in rw z (omega arith), λ j h. let z : j ≡ 0 = omega arith in rw z (omega arith))
far_apart K n a b (c ∷ ps) lt near sparse =
    let ih = far_apart K n b c ps near.0 near.2 sparse.1 in
    (λ j h. second_next K n a b c ps lt sparse.0 ih.0 ih.1 j (omega arith), λ j h. ih.0 j (omega arith))
  where
    second_next : (K n a b c : ℕ) (ps : List ℕ) → a < b → a + K < c → ((j : ℕ) → 2 * j ≤ length ps + 1 → b + j * (K + 1) ≤ n) → ((j : ℕ) → 2 * j ≤ length ps → c + j * (K + 1) ≤ n) → (j : ℕ) → 2 * j ≤ length ps + 2 → a + j * (K + 1) ≤ n
    second_next K n a b c ps lt far one two zero h = omega (arith, one 0 (omega arith))
    second_next K n a b c ps lt far one two (suc j) h = omega (arith, two j (omega arith))

-- how many points there are
pub kept-few : (K n : ℕ) (ps : List ℕ) → AreKept K n ps → length ps ≤ 2 * (n / (K + 1)) + 2
kept-few K n [] h = absurd h
kept-few K n (p ∷ []) h = omega arith
kept-few K n (p ∷ q ∷ ps) h =
    let apart = far_apart K n p q ps h.1.0 h.1.2 h.2 in
    few K n p (length ps) apart.0
  where
    few : (K n p m : ℕ) → ((j : ℕ) → 2 * j ≤ m + 1 → p + j * (K + 1) ≤ n) → suc (suc m) ≤ 2 * (n / (K + 1)) + 2
    few K n p m h =
        let half : ℕ = (m + 1) / 2 in
        let below : p + ((m + 1) / 2) * (K + 1) ≤ n = h ((m + 1) / 2) (omega arith) in
        let times : ((m + 1) / 2) * (K + 1) ≤ n = omega (arith, below) in
        let pos : zero < K + 1 = omega arith in
        let fits : (m + 1) / 2 ≤ n / (K + 1) = (le-div_iff_mul-le pos).1 times in
        omega arith

-- the start is a kept point at most q
pub last_up_to-le : (q : ℕ) (ps : List ℕ) → last_up_to q ps ≤ q
last_up_to-le q [] = omega arith
last_up_to-le q (p ∷ ps) =
    elim (leb_tells p q) [
      | inl t ↦ rw t.0 (let ih : last_up_to q ps ≤ q = last_up_to-le q ps in omega arith)
      | inr f ↦ rw f.0 (last_up_to-le q ps)
    ]

-- less than K directives lie between the start and q
pub last_up_to-near : (K n q before : ℕ) (ps : List ℕ) → before ≤ q → q ≤ n → AreNear K n before ps → q < max before (last_up_to q ps) + K
last_up_to-near K n q before [] le within near = omega arith
last_up_to-near K n q before (p ∷ ps) le within near =
    elim (leb_tells p q) [
      | inl t ↦ rw t.0 (let ih : q < max p (last_up_to q ps) + K = last_up_to-near K n q p ps t.1 within near.2 in omega arith)
      | inr f ↦ rw f.0 (omega arith)
    ]

-- every kept point is one of the script
near-all : (K n before : ℕ) (ps : List ℕ) → AreNear K n before ps → All (λ p. p ≤ n) (before ∷ ps)
near-all K n before [] near = All-cons (λ p. p ≤ n) before [] near.0 (All-nil (λ p. p ≤ n))
near-all K n before (p ∷ ps) near =
    let more = near-all K n p ps near.2 in
    let here : p ≤ n = All-head (λ p. p ≤ n) p ps more in
    All-cons (λ p. p ≤ n) before (p ∷ ps) (omega (arith, near.0)) more

pub kept-all : (K n : ℕ) (ps : List ℕ) → AreKept K n ps → All (λ p. p ≤ n) ps
kept-all K n [] kept = absurd kept
kept-all K n (p ∷ ps) kept = near-all K n p ps kept.1

pub Contains-head : (p : ℕ) (ps : List ℕ) → Contains (p ∷ ps) p
Contains-head p ps = (0, omega arith, refl)

pub Contains-cons : (ps : List ℕ) (p x : ℕ) → Contains ps x → Contains (p ∷ ps) x
Contains-cons ps p x h = (suc h.0, omega (arith, h.1), h.2)

-- the next kept point from r on is less than K away, or the end is
pub near-next : (K n r before : ℕ) (ps : List ℕ) → before < r → r ≤ n → AreNear K n before ps → ((p : ℕ) × Contains ps p × (r ≤ p) × (p < r + K)) ⊎ (n + 1 < r + K)
near-next K n r before [] lt within near = inr (omega arith)
near-next K n r before (p ∷ ps) lt within near =
    elim (cases_lt p r) [
      | inl below ↦ elim (near-next K n r p ps below within near.2) [
        | inl found ↦ inl (found.0, Contains-cons ps p found.0 found.1, found.2, found.3)
        | inr e ↦ inr e
      ]
      | inr above ↦ inl (p, Contains-head p ps, above, omega arith)
    ]

-- ---- kept points by their index

near-step : (K n before k : ℕ) (ps : List ℕ) → AreNear K n before ps → k < length ps → get_or ps k 0 ≤ get_or (before ∷ ps) k 0 + K
near-step K n before k [] near lt = absurd (omega arith)
near-step K n before zero (p ∷ ps) near lt = near.1
near-step K n before (suc k) (p ∷ ps) near lt = near-step K n p k ps near.2 (omega arith)

near-last : (K n before : ℕ) (ps : List ℕ) → AreNear K n before ps → (get_or (before ∷ ps) (length ps) 0 ≤ n) × (n < get_or (before ∷ ps) (length ps) 0 + K)
near-last K n before [] near = near
near-last K n before (p ∷ ps) near = near-last K n p ps near.2

pub kept-step : (K n : ℕ) (ps : List ℕ) (i : ℕ) → AreKept K n ps → i + 1 < length ps → get_or ps (i + 1) 0 ≤ get_or ps i 0 + K
kept-step K n [] i kept lt = absurd kept
kept-step K n (p ∷ ps) i kept lt = rw add-one (near-step K n p i ps kept.1 (omega arith))

pub kept-last : (K n : ℕ) (ps : List ℕ) → AreKept K n ps → (get_or ps (length ps - 1) 0 ≤ n) × (n < get_or ps (length ps - 1) 0 + K)
kept-last K n [] kept = absurd kept
kept-last K n (p ∷ ps) kept =
    let index : suc (length ps) - 1 ≡ length ps = omega arith in
    rw index (near-last K n p ps kept.1)
