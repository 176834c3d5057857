-- Laws of the plain work on points.
use Rattle.std.proofs.Common.{◌≡◌, ℕ, zero, suc, ◌+◌, ◌-◌, ◌<◌, ◌≤◌, List, [], ◌∷◌, ◌++◌, length, take, drop, map, refl, ap, ap₂, sym, ◌∙◌, arith, get_or, true, false, subst}
use Rattle.std.specs.Prelude.{All, filter, nat_lt, nat_le, remove}
use Rattle.std.proofs.lemmas.Bool.{le-leb}
use Rattle.std.proofs.lemmas.Bool.Decides.{nat_tests}
use Rattle.std.proofs.lemmas.List.{take_at, drop_at, map-append, take-map, length-take-le, drop_more, drop_all, take_all, drop-drop, take_more, take_rest, drop-map}
use Rattle.std.proofs.lemmas.List.Elements.{All-drop}
use Rattle.std.proofs.lemmas.List.Edits.{get_or-remove_below, get_or-remove_above}
use Rattle.rb_replay.specs.Points.{thin_after, IsRising}

-- what holds of each holds of those that are left
pub all-rest : (n r : ℕ) (ps : List ℕ) → All (λ p. p ≤ n) ps → All (λ p. p ≤ n) (take (length ps - r) (drop r ps))
all-rest n r ps all = subst (All (λ p. p ≤ n)) (sym (take_rest ps r)) (All-drop (λ p. p ≤ n) r ps all)

pub nothing_below : (a bound : ℕ) (ps : List ℕ) → bound ≤ a → IsRising a ps → ([] ≡ filter (λ p. nat_lt p bound) ps) × (ps ≡ filter (λ p. nat_le bound p) ps)
nothing_below a bound [] le rising = (refl, refl)
nothing_below a bound (p ∷ ps) le rising =
    let more = nothing_below (p + 1) bound ps (omega arith) rising.1 in
    let no : nat_lt p bound ≡ false = grind (arith, nat_tests) in
    let yes : nat_le bound p ≡ true = grind (arith, nat_tests) in
    (rw no more.0, rw yes (ap (λ qs. p ∷ qs) more.1))

-- where a rising list passes the bound, it falls into the two filters
pub split_rising : (a bound i : ℕ) (ps : List ℕ) → IsRising a ps → i ≤ length ps → ((k : ℕ) → k < i → get_or ps k 0 < bound) → (i < length ps → bound ≤ get_or ps i 0) → (take i ps ≡ filter (λ p. nat_lt p bound) ps) × (drop i ps ≡ filter (λ p. nat_le bound p) ps)
split_rising a bound zero [] rising le below above = (refl, refl)
split_rising a bound (suc i) [] rising le below above = absurd (omega arith)
split_rising a bound zero (p ∷ ps) rising le below above =
    let here : bound ≤ p = above (omega arith) in
    nothing_below p bound (p ∷ ps) here (omega arith, rising.1)
split_rising a bound (suc i) (p ∷ ps) rising le below above =
    let here : p < bound = below 0 (omega arith) in
    let more = split_rising (p + 1) bound i ps rising.1 (omega arith) (λ k lt. below (suc k) (omega arith)) (λ lt. above (omega arith)) in
    let yes : nat_lt p bound ≡ true = grind (arith, nat_tests) in
    let no : nat_le bound p ≡ false = grind (arith, nat_tests) in
    (rw yes (ap (λ qs. p ∷ qs) more.0), rw no more.1)

-- what thinning makes of the points, where those before the one at i are settled
abbrev pub thinned_from : ℕ → ℕ → List ℕ → List ℕ
thinned_from K i ps = take i ps ++ thin_after K (get_or ps (i - 1) 0) (get_or ps i 0) (drop (i + 1) ps)

thinned_next : (K i : ℕ) (ps : List ℕ) → i + 1 < length ps → thinned_from K i ps ≡ take i ps ++ thin_after K (get_or ps (i - 1) 0) (get_or ps i 0) (get_or ps (i + 1) 0 ∷ drop (i + 1 + 1) ps)
thinned_next K i ps lt = ap (λ (t : List ℕ). take i ps ++ thin_after K (get_or ps (i - 1) 0) (get_or ps i 0) t) (drop_more ps (i + 1) 0 lt)

-- a point that goes
pub thinned_drop : (K i : ℕ) (ps : List ℕ) → 1 ≤ i → i + 1 < length ps → get_or ps (i + 1) 0 - get_or ps (i - 1) 0 ≤ K → thinned_from K i ps ≡ thinned_from K i (remove ps i)
thinned_drop K i ps one lt near =
    let within : i < length ps = omega arith in
    let before : i - 1 < i = omega arith in
    let here : i ≤ i = omega arith in
    let yes : nat_le (get_or ps (i + 1) 0 - get_or ps (i - 1) 0) K ≡ true = le-leb (get_or ps (i + 1) 0 - get_or ps (i - 1) 0) K near in
    let long : length (take i ps) ≡ i = length-take-le i ps (omega arith) in
    let front : take i (remove ps i) ≡ take i ps = take_at (take i ps) (drop (suc i) ps) i long in
    let back : drop (i + 1) (remove ps i) ≡ drop (i + 1 + 1) ps = drop_removed i ps long in
    let a : get_or (remove ps i) (i - 1) 0 ≡ get_or ps (i - 1) 0 = get_or-remove_below ps i 0 (i - 1) before within in
    let b : get_or (remove ps i) i 0 ≡ get_or ps (i + 1) 0 = get_or-remove_above ps i 0 i here within in
    let goes : take i ps ++ thin_after K (get_or ps (i - 1) 0) (get_or ps i 0) (get_or ps (i + 1) 0 ∷ drop (i + 1 + 1) ps) ≡ take i ps ++ thin_after K (get_or ps (i - 1) 0) (get_or ps (i + 1) 0) (drop (i + 1 + 1) ps) = rw yes refl in
    let same : thinned_from K i (remove ps i) ≡ take i ps ++ thin_after K (get_or ps (i - 1) 0) (get_or ps (i + 1) 0) (drop (i + 1 + 1) ps) = rw (front, back, a, b) refl in
    thinned_next K i ps lt ∙ goes ∙ sym same
  where
    drop_removed : (i : ℕ) (ps : List ℕ) → length (take i ps) ≡ i → drop (i + 1) (remove ps i) ≡ drop (i + 1 + 1) ps
    drop_removed i ps long =
        sym (drop-drop 1 i (remove ps i)) ∙ ap (drop 1) (drop_at (take i ps) (drop (suc i) ps) i long) ∙ drop-drop 1 (suc i) ps ∙ ap (λ (n : ℕ). drop n ps) (omega arith)

-- no point is left to look at
pub thinned_end : (K i : ℕ) (ps : List ℕ) → i + 1 ≡ length ps → thinned_from K i ps ≡ ps
thinned_end K i ps all =
    let within : i < length ps = omega arith in
    let none : drop (i + 1) ps ≡ [] = drop_all (i + 1) ps (omega arith) in
    rw none (sym (take_more ps i 0 within) ∙ take_all (i + 1) ps (omega arith))

-- what is kept goes with its point
pub map-remove : {A B : Type 0} (f : A → B) (xs : List A) (i : ℕ) → map f (remove xs i) ≡ remove (map f xs) i
map-remove f xs i = map-append f (take i xs) (drop (suc i) xs) ∙ ap₂ (λ s t. s ++ t) (sym (take-map f i xs)) (sym (drop-map f (suc i) xs))

pub kept-remove : {A B C : Type 0} (f : A → C) (h : B → C) (xs : List A) (ys : List B) (i : ℕ) → map f xs ≡ map h ys → map f (remove xs i) ≡ map h (remove ys i)
kept-remove f h xs ys i same = map-remove f xs i ∙ ap (λ t. remove t i) same ∙ sym (map-remove h ys i)

-- equal images have equal elements
pub map_at : {A B C : Type 0} (f : A → C) (h : B → C) (xs : List A) (ys : List B) (k : ℕ) (x : A) (y : B) → map f xs ≡ map h ys → k < length ys → f (get_or xs k x) ≡ h (get_or ys k y)
map_at f h [] [] k x y same lt = absurd (omega arith)
map_at f h [] (b ∷ ys) k x y same lt = cc
map_at f h (a ∷ xs) [] k x y same lt = absurd (omega arith)
map_at f h (a ∷ xs) (b ∷ ys) zero x y same lt = cc
map_at f h (a ∷ xs) (b ∷ ys) (suc k) x y same lt = let rest : map f xs ≡ map h ys = cc in map_at f h xs ys k x y rest (omega arith)
