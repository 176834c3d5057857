-- Laws of lists that are cut into parts of one size, and a rest behind them.
use Rattle.std.proofs.Common.{◌≡◌, ◌↔◌, ℕ, zero, suc, ◌+◌, ◌*◌, ◌<◌, ◌≤◌, List, [], ◌∷◌, ◌++◌, length, get_or, take, drop, ap, sym, refl, ◌∙◌, arith, length-append, append_assoc, inl, inr}
use Rattle.std.proofs.lemmas.List.{take_at, drop_at, length_push, get_or_append_left, get_or_at}
use Rattle.std.proofs.lemmas.Bool.{cases_lt}
use Rattle.rb_raftlog.specs.Packed.{joined}
use Rattle.rb_raftlog.proofs.PageLaws.{joined_end}

-- lists that begin with as many items
same_parts : {X : Type 0} (a b x y : List X) → length a ≡ length b → a ++ x ≡ b ++ y → (a ≡ b) × (x ≡ y)
same_parts {X} a b x y size e =
    let front : a ≡ b = sym (take_at a x (length b) size) ∙ ap (take (length b)) e ∙ take_at b y (length b) refl in
    let back : x ≡ y = sym (drop_at a x (length b) size) ∙ ap (drop (length b)) e ∙ drop_at b y (length b) refl in
    (front, back)

-- each part has n items
abbrev pub AreOf : {X : Type 0} → ℕ → List (List X) → Type 0
AreOf n ps = (k : ℕ) → k < length ps → length (get_or ps k []) ≡ n

rest_of : {X : Type 0} (n : ℕ) (p : List X) (ps : List (List X)) → AreOf n (p ∷ ps) → AreOf n ps
rest_of {X} n p ps h = λ k low. h (suc k) (omega arith)

first_of : {X : Type 0} (n : ℕ) (p : List X) (ps : List (List X)) → AreOf n (p ∷ ps) → length p ≡ n
first_of {X} n p ps h = h 0 (omega arith)

-- how many items the first k parts have
pub taken_size : {X : Type 0} (n : ℕ) (ps : List (List X)) (k : ℕ) → AreOf n ps → k ≤ length ps → length (joined (take k ps)) ≡ n * k
taken_size {X} n ps zero h low = omega arith
taken_size {X} n [] (suc k) h low = absurd (omega (arith, low))
taken_size {X} n (p ∷ ps) (suc k) h low =
    omega (arith, length-append p (joined (take k ps)), first_of n p ps h, taken_size n ps k (rest_of n p ps h) (omega arith))

-- and all of them
pub parts_size : {X : Type 0} (n : ℕ) (ps : List (List X)) → AreOf n ps → length (joined ps) ≡ n * length ps
parts_size {X} n [] h = omega arith
parts_size {X} n (p ∷ ps) h = omega (arith, length-append p (joined ps), first_of n p ps h, parts_size n ps (rest_of n p ps h))

-- one part more
pub one_more : {X : Type 0} (n : ℕ) (ps : List (List X)) (p : List X) → AreOf n ps → length p ≡ n → AreOf n (ps ++ p ∷ [])
one_more {X} n ps p h size = λ k low.
    elim (cases_lt k (length ps)) as (λ _. length (get_or (ps ++ p ∷ []) k []) ≡ n) [
      | inl under ↦ ap length (get_or_append_left ps (p ∷ []) [] k under) ∙ h k under
      | inr over ↦ ap length (get_or_at ps p [] [] k (omega (arith, length_push ps p))) ∙ size
    ]

-- it takes what was left, and some of what is added
pub with_more : {X : Type 0} (ps : List (List X)) (p left rest more : List X) → p ++ left ≡ rest ++ more → joined (ps ++ p ∷ []) ++ left ≡ (joined ps ++ rest) ++ more
with_more {X} ps p left rest more e =
    ap (λ (l : List X). l ++ left) (joined_end ps p) ∙ append_assoc (joined ps) p left ∙ ap (λ (l : List X). joined ps ++ l) e ∙ sym (append_assoc (joined ps) rest more)

-- equal lists that have as many parts are cut at the same places
pub same_cuts : {X : Type 0} (n : ℕ) (ps qs : List (List X)) (r s : List X) → AreOf n ps → AreOf n qs → length ps ≡ length qs → joined ps ++ r ≡ joined qs ++ s
    → (ps ≡ qs) × (r ≡ s)
same_cuts {X} n [] [] r s h i m e = (refl, e)
same_cuts {X} n [] (q ∷ qs) r s h i m e = absurd (omega (arith, m))
same_cuts {X} n (p ∷ ps) [] r s h i m e = absurd (omega (arith, m))
same_cuts {X} n (p ∷ ps) (q ∷ qs) r s h i m e =
    let size : length p ≡ length q = first_of n p ps h ∙ sym (first_of n q qs i) in
    let parts = same_parts p q (joined ps ++ r) (joined qs ++ s) size (sym (append_assoc p (joined ps) r) ∙ e ∙ append_assoc q (joined qs) s) in
    let later = same_cuts n ps qs r s (rest_of n p ps h) (rest_of n q qs i) (omega (arith, m)) parts.1 in
    (ap (λ (x : List X). x ∷ ps) parts.0 ∙ ap (λ (l : List (List X)). q ∷ l) later.0, later.1)

-- so lists are told by their parts and rests
pub told_by_cuts : {X : Type 0} (ps qs : List (List X)) (r s x y : List X) → (joined ps ++ r ≡ joined qs ++ s → (ps ≡ qs) × (r ≡ s)) → joined ps ++ r ≡ x
    → joined qs ++ s ≡ y → ((ps ≡ qs) × (r ≡ s)) ↔ (x ≡ y)
told_by_cuts {X} ps qs r s x y cut e f = (
  λ both. sym e ∙ ap (λ (l : List (List X)). joined l ++ r) both.0 ∙ ap (λ (l : List X). joined qs ++ l) both.1 ∙ f,
  λ same. cut (e ∙ same ∙ sym f),
)
