-- Lemmas on how far a quorum holds the log: what stands in the middle of the sorted indexes is what a count of holders says
use Rattle.std.proofs.Common.{◌≡◌, ℕ, zero, suc, ◌+◌, ◌-◌, ◌*◌, ◌/◌, ◌<◌, ◌≤◌, Bool, true, false, cond, ◌&&◌, ◌||◌, List, [], ◌∷◌, length, get_or, drop, map, max, min, Option, Some, refl, sym, ◌∙◌, arith, if◌then◌else◌, nat_le, nat_lt, nat_eq, ◌==◌, inl, inr}
use Rattle.std.proofs.lemmas.List.{append-nil, drop_all, length-map}
use Rattle.std.proofs.Math.Seq.{take-length}
use Rattle.std.specs.List.{count_by, refill}
use Rattle.std.specs.List.Sorted.{IsPermutation, IsNonDecreasing}
use Rattle.std.specs.Map.{lookup}
use Rattle.std.proofs.lemmas.Bool.{cases_lt, and_parts, le-leb, leb-true}
use Rattle.std.proofs.lemmas.Bool.Decides.{nat_tests}
use Rattle.std.proofs.lemmas.List.Sorted.{sum_by-IsPermutation, All-permutation, length_permutation}
use Rattle.std.proofs.lemmas.List.Sums.{count_by-le-length}
use Rattle.std.proofs.lemmas.List.Elements.{All-map}
use Rattle.rb_tracker.specs.Quorum.{is_majority}
use Rattle.rb_tracker.specs.Progresses.{PlainProgress}
use Rattle.rb_tracker.specs.Trackers.{PlainTracker}
use Rattle.rb_tracker.proofs.SetLaws.{if_both}
use Rattle.rb_tracker.proofs.CountLaws.{count-cons, count_all, count_none, count_map}
use Rattle.rb_tracker.proofs.QuorumLaws.{and_true}
use Rattle.rb_tracker.specs.Commits.{commit_of, greatest, highest, match_in, match_of, holds, is_held, IsHeldByMajority}

-- what a search downward finds passes, where 0 does
greatest_passes : (top : ℕ) (p : ℕ → Bool) → p 0 ≡ true → p (greatest top p) ≡ true
unfolding greatest
greatest_passes zero p low = low
greatest_passes (suc n) p low = if_both (λ k. p k ≡ true) (p (suc n)) (suc n) (greatest n p) (λ h. h) (λ _. greatest_passes n p low)

below_top : (k n : ℕ) (p : ℕ → Bool) → k ≤ suc n → p k ≡ true → p (suc n) ≡ false → k ≤ n
below_top k n p h passes fails = grind (arith, nat_tests)

-- and nothing up to the top that passes is greater
greatest_bounds : (top k : ℕ) (p : ℕ → Bool) → k ≤ top → p k ≡ true → k ≤ greatest top p
unfolding greatest
greatest_bounds zero k p h passes = h
greatest_bounds (suc n) k p h passes =
    if_both (λ g. k ≤ g) (p (suc n)) (suc n) (greatest n p) (λ _. h)
    (λ fails. greatest_bounds n k p (below_top k n p h passes fails) passes)

-- where exactly the numbers up to n pass, n is the greatest
greatest_is : (top n : ℕ) (passes : ℕ → Bool) → ((k : ℕ) → passes k ≡ nat_le k n) → n ≤ top → greatest top passes ≡ n
greatest_is top n passes exactly h =
    let low = greatest_passes top passes (exactly 0 ∙ le-leb 0 n (omega arith)) in
    let high = greatest_bounds top n passes h (exactly n ∙ le-leb n n (omega arith)) in
    let within : greatest top passes ≤ n = leb-true (greatest top passes) n (sym (exactly (greatest top passes)) ∙ low) in
    omega arith

rises_on : (y : ℕ) (ys : List ℕ) → IsNonDecreasing (y ∷ ys) → IsNonDecreasing ys
rises_on y ys up = λ i j d le within. up (suc i) (suc j) d (omega arith) (omega arith)

-- in rising numbers, those from n on stand together at the end
count_reaching : (xs : List ℕ) (n j : ℕ) → j < length xs → IsNonDecreasing xs → n ≤ get_or xs j 0 → length xs ≤ count_by (λ x. nat_le n x) xs + j
count_reaching [] n j h up reach = omega arith
count_reaching (y ∷ []) n zero h up reach = grind (arith, nat_tests)
count_reaching (y ∷ z ∷ zs) n zero h up reach =
    let first : y ≤ z = up 0 1 0 (omega arith) (omega arith) in
    let step = count-cons (λ x. nat_le n x) y (z ∷ zs) in
    let rest = count_reaching (z ∷ zs) n zero (omega arith) (rises_on y (z ∷ zs) up) (omega arith) in
    grind (arith, nat_tests)
count_reaching (y ∷ ys) n (suc j) h up reach =
    let rest = count_reaching ys n j (omega arith) (rises_on y ys up) reach in
    let step = count-cons (λ x. nat_le n x) y ys in
    grind (arith, nat_tests)

count_short : (xs : List ℕ) (n j : ℕ) → j < length xs → IsNonDecreasing xs → get_or xs j 0 < n → count_by (λ x. nat_le n x) xs + j < length xs
count_short [] n j h up short = omega arith
count_short (y ∷ ys) n zero h up short =
    let rest = count_by-le-length (λ x. nat_le n x) ys in
    let step = count-cons (λ x. nat_le n x) y ys in
    grind (arith, nat_tests)
count_short (y ∷ ys) n (suc j) h up short =
    let first : y ≤ get_or ys j 0 = up 0 (suc j) 0 (omega arith) h in
    let rest = count_short ys n j (omega arith) (rises_on y ys up) short in
    let step = count-cons (λ x. nat_le n x) y ys in
    grind (arith, nat_tests)

-- no id holds more than the highest index of a view
lookup_step : (b : Bool) (view : PlainProgress) (rest : Option PlainProgress) (top : ℕ) → match_in rest ≤ top → match_in (cond b (Some view) rest) ≤ max view.matched top
lookup_step true view rest top h = omega arith
lookup_step false view rest top h = omega arith

pub match_within : (views : List (ℕ × PlainProgress)) (id : ℕ) → match_of views id ≤ highest views
unfolding highest
match_within [] id = omega arith
match_within (e ∷ es) id = lookup_step (nat_eq id e.0) e.1 (lookup (nat_eq id) es) (highest es) (match_within es id)

most_iff : (len count j k v : ℕ) → 0 < len → j ≡ (len - 1) / 2 → (k ≤ v → len ≤ count + j) → (v < k → count + j < len) → (len == 0 || nat_lt len (2 * count)) ≡ nat_le k v
most_iff len count j k v some is above below =
    let low : 2 * j ≤ len - 1 = omega arith in
    let high : len ≤ 2 * j + 2 = omega arith in
    grind (arith, nat_tests)

-- of the sorted indexes the middle one, or the lower of two, is the greatest that most of the voters hold
pub held_by_majority_is : (views : List (ℕ × PlainProgress)) (voters ranked : List ℕ) → 0 < length voters → IsPermutation (map (match_of views) voters) ranked → IsNonDecreasing ranked → IsHeldByMajority views voters (get_or ranked ((length ranked - 1) / 2) 0)
held_by_majority_is views voters ranked some same up =
    let f = match_of views in
    let len : length ranked ≡ length voters = length_permutation _ _ same ∙ length-map voters f in
    let j = (length ranked - 1) / 2 in
    let within : j < length ranked = omega arith in
    record {
      decides = λ k.
          let counted : count_by (λ id. nat_le k (f id)) voters ≡ count_by (λ x. nat_le k x) ranked =
          sym (sum_by-IsPermutation (λ x. cond (nat_le k x) 1 0) _ _ same ∙ count_map f (λ x. nat_le k x) voters) in
          rw (counted, ← len) (most_iff (length ranked) (count_by (λ x. nat_le k x) ranked) j k (get_or ranked j 0) (omega arith) refl (count_reaching ranked k j within up) (count_short ranked k j within up));
      within = All-permutation (λ x. x ≤ highest views) _ _ same (All-map (λ x. x ≤ highest views) f voters (λ i d h. match_within views _)) j 0 within;
    }

-- what a sort in place leaves, where it kept the length
pub refill_whole : (xs ws : List ℕ) → length ws ≡ length xs → refill (length xs) xs ws ≡ ws
refill_whole xs ws same =
    let none : drop (length ws) xs ≡ [] = drop_all _ xs (omega arith) in
    rw (none, append-nil, ← same) (take-length ws)

module _ (t : PlainTracker) (n : ℕ) where
  commit_is : (length t.config.incoming == 0 && length t.config.outgoing == 0) ≡ false → ((k : ℕ) → is_held t k ≡ nat_le k n) → n ≤ highest t.views → n ≡ commit_of t
  unfolding commit_of
  commit_is some exactly within = rw some (sym (greatest_is (highest t.views) n _ exactly within))

  pub commit_of_outgoing : (length t.config.incoming == 0) ≡ true → (length t.config.outgoing == 0) ≡ false → IsHeldByMajority t.views t.config.outgoing n → n ≡ commit_of t
  commit_of_outgoing none some is = commit_is (rw (none, some) refl) (λ k. rw none (is.decides k)) is.within

  pub commit_of_incoming : (length t.config.incoming == 0) ≡ false → (length t.config.outgoing == 0) ≡ true → IsHeldByMajority t.views t.config.incoming n → n ≡ commit_of t
  commit_of_incoming some none is = commit_is (rw some refl) (λ k. rw (none, and_true) (is.decides k)) is.within

le_min : (k a b : ℕ) → (nat_le k a && nat_le k b) ≡ nat_le k (min a b)
le_min k a b = grind (arith, nat_tests)

pub commit_of_both : (t : PlainTracker) (a b : ℕ) → (length t.config.incoming == 0) ≡ false → IsHeldByMajority t.views t.config.incoming a → IsHeldByMajority t.views t.config.outgoing b → min a b ≡ commit_of t
commit_of_both t a b some first second =
    commit_is t (min a b) (rw some refl) (λ k. rw (first.decides k, second.decides k) (le_min k a b)) (let h = first.within in omega arith)

pub commit_of_none : (t : PlainTracker) → (length t.config.incoming == 0) ≡ true → (length t.config.outgoing == 0) ≡ true → 0 ≡ commit_of t
unfolding commit_of
commit_of_none t none none' = rw (none, none') refl

nobody : (a b : ℕ) → 0 < a → (a == 0 && b == 0) ≡ true → ⊥
nobody a b some h = grind (arith, nat_tests)

most_of_all : (len count : ℕ) → count ≡ len → (len == 0 || nat_lt len (2 * count)) ≡ true
most_of_all len count h = grind (arith, nat_tests)

holds_first : (views : List (ℕ × PlainProgress)) (id : ℕ) → holds views 0 id ≡ true
holds_first views id = grind (arith, nat_tests)

-- everybody holds the log's beginning
held_first : (t : PlainTracker) → is_held t 0 ≡ true
held_first t =
    rw (
      most_of_all (length t.config.incoming) (count_by (λ id. holds t.views 0 id) t.config.incoming) (count_all _ t.config.incoming (holds_first t.views)),
      most_of_all (length t.config.outgoing) (count_by (λ id. holds t.views 0 id) t.config.outgoing) (count_all _ t.config.outgoing (holds_first t.views)),
    )
    refl

holds_past : (n m : ℕ) → m < n → nat_le n m ≡ false
holds_past n m h = grind (arith, nat_tests)

most_of_none : (len count : ℕ) → 0 < len → count ≡ 0 → (len == 0 || nat_lt len (2 * count)) ≡ true → ⊥
most_of_none len count some none h = grind (arith, nat_tests)

within_highest : (t : PlainTracker) (n : ℕ) → 0 < length t.config.incoming → is_held t n ≡ true → n ≤ highest t.views
within_highest t n some held =
    let voters = t.config.incoming in
    let having : ℕ → Bool = λ id. holds t.views n id in
    elim (cases_lt (highest t.views) n) [
      | inl past ↦
          let none = count_none having voters (λ id. holds_past n (match_of t.views id) (let low = match_within t.views id in omega arith)) in
          absurd (most_of_none (length voters) (count_by having voters) some none (and_parts (is_majority voters having) (is_majority t.config.outgoing having) held).0)
      | inr within ↦ within
    ]

-- a quorum holds what is committed
pub commit_is_held : (t : PlainTracker) → is_held t (commit_of t) ≡ true
unfolding commit_of
commit_is_held t =
    if_both (λ n. is_held t n ≡ true) (length t.config.incoming == 0 && length t.config.outgoing == 0) 0 (greatest (highest t.views) (λ n. is_held t n))
    (λ _. held_first t) (λ _. greatest_passes (highest t.views) (λ n. is_held t n) (held_first t))

-- and no quorum holds more
pub commit_is_greatest : (t : PlainTracker) (n : ℕ) → 0 < length t.config.incoming → is_held t n ≡ true → n ≤ commit_of t
unfolding commit_of
commit_is_greatest t n some held =
    if_both (λ m. n ≤ m) (length t.config.incoming == 0 && length t.config.outgoing == 0) 0 (greatest (highest t.views) (λ n. is_held t n))
    (λ none. absurd (nobody (length t.config.incoming) (length t.config.outgoing) some none))
    (λ _. greatest_bounds (highest t.views) n (λ n. is_held t n) (within_highest t n some held) held)

pub commit_of_nobody : (t : PlainTracker) → t.config.incoming ≡ [] → t.config.outgoing ≡ [] → commit_of t ≡ 0
commit_of_nobody t none none' = sym (commit_of_none t (rw none refl) (rw none' refl))
