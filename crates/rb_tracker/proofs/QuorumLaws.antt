-- Lemmas on majorities: two counts that are together more than there is meet
use Rattle.std.proofs.Common.{◌≡◌, ℕ, suc, ◌+◌, ◌*◌, ◌<◌, ◌≤◌, Bool, true, false, not, ◌&&◌, ◌||◌, cond, List, [], ◌∷◌, length, refl, ap, sym, ◌∙◌, arith, if◌then◌else◌, nat_lt, ◌==◌}
use Rattle.std.specs.List.{count_by}
use Rattle.std.proofs.lemmas.Bool.{and_parts, or_left}
use Rattle.std.proofs.lemmas.Bool.Decides.{nat_tests}
use Rattle.rb_tracker.specs.Sets.{has, IsAscending}
use Rattle.rb_tracker.specs.Quorum.{is_majority, IsMajority, IsQuorum, Share, ShareVoter}
use Rattle.rb_tracker.specs.Changes.{differing}
use Rattle.rb_tracker.specs.declared.config.Config.{Config}
use Rattle.rb_tracker.proofs.CountLaws.{count-cons, count_same, count_all, count_none}
use Rattle.rb_tracker.proofs.SetLaws.{also, has_here, has_below}

-- an id of a list that passes three tests
pub record Found (p q r : ℕ → Bool) (xs : List ℕ) : Type 0 where
  pub id : ℕ
  pub inside : has xs id ≡ true
  pub first : p id ≡ true
  pub second : q id ≡ true
  pub third : r id ≡ true

found_later : (p q r : ℕ → Bool) (x : ℕ) (xs : List ℕ) → Found p q r xs → Found p q r (x ∷ xs)
found_later p q r x xs f = record { id = f.id; inside = also (x == f.id) (has xs f.id) f.inside; first = f.first; second = f.second; third = f.third }

meet_step : (p q r : ℕ → Bool) (x : ℕ) (xs : List ℕ) (a b c : Bool) → p x ≡ a → q x ≡ b → r x ≡ c
    → (count_by r xs < count_by (λ y. p y && r y) xs + count_by (λ y. q y && r y) xs → Found p q r xs)
    → cond c 1 0 + count_by r xs < (cond (a && c) 1 0 + count_by (λ y. p y && r y) xs) + (cond (b && c) 1 0 + count_by (λ y. q y && r y) xs) → Found p q r (x ∷ xs)
meet_step p q r x xs true true true ha hb hc rest h = record { id = x; inside = has_here x xs; first = ha; second = hb; third = hc }
meet_step p q r x xs false true c ha hb hc rest h = found_later p q r x xs (rest (omega arith))
meet_step p q r x xs a b c ha hb hc rest h = found_later p q r x xs (rest (omega arith))

-- among those that pass a test, two counts that are together more than there are meet
meet : (p q r : ℕ → Bool) (xs : List ℕ) → count_by r xs < count_by (λ y. p y && r y) xs + count_by (λ y. q y && r y) xs → Found p q r xs
meet p q r [] h = absurd (omega arith)
meet p q r (x ∷ xs) h =
    meet_step p q r x xs (p x) (q x) (r x) refl refl refl (meet p q r xs)
    (rw (← count-cons r x xs, ← count-cons (λ y. p y && r y) x xs, ← count-cons (λ y. q y && r y) x xs) h)

pub and_true : (a : Bool) → (a && true) ≡ a
and_true true = refl
and_true false = refl

and_false : (a : Bool) → (a && false) ≡ false
and_false true = refl
and_false false = refl

majority_more : (len count : ℕ) → 0 < len → (len == 0 || nat_lt len (2 * count)) ≡ true → len < 2 * count
majority_more len count some h = grind (arith, nat_tests)

-- two majorities of one set share a voter
pub majorities_meet : (voters : List ℕ) (p q : ℕ → Bool) → IsMajority voters p → IsMajority voters q → Found p q (λ _. true) voters
majorities_meet voters p q first second =
    let a = majority_more (length voters) (count_by p voters) first.some first.decides in
    let b = majority_more (length voters) (count_by q voters) second.some second.decides in
    let all = count_all (λ _. true) voters (λ _. refl) in
    let ps = count_same (λ y. p y && true) p voters (λ y. and_true (p y)) in
    let qs = count_same (λ y. q y && true) q voters (λ y. and_true (q y)) in
    meet p q (λ _. true) voters (omega arith)

pub found_shares : (voters : List ℕ) (p q r : ℕ → Bool) → Found p q r voters → Share voters p q
found_shares voters p q r f = record { id = f.id; votes = f.inside; first = f.first; second = f.second }

-- what is found among the incoming voters is a voter
pub incoming_shares : (c : Config) (p q r : ℕ → Bool) → Found p q r c.incoming → ShareVoter c p q
incoming_shares c p q r f = record { id = f.id; votes = or_left (has c.incoming f.id) (has c.outgoing f.id) f.inside; first = f.first; second = f.second }

-- a quorum is a majority of the incoming voters
pub incoming_majority : (c : Config) (p : ℕ → Bool) → IsQuorum c p → IsMajority c.incoming p
incoming_majority c p is = record { some = is.some; decides = (and_parts (is_majority c.incoming p) (is_majority c.outgoing p) is.decides).0 }

-- and, while there are outgoing ones, of those
pub outgoing_majority : (c : Config) (p : ℕ → Bool) → 0 < length c.outgoing → IsQuorum c p → IsMajority c.outgoing p
outgoing_majority c p some is = record { some = some; decides = (and_parts (is_majority c.incoming p) (is_majority c.outgoing p) is.decides).1 }

pub quorums_meet : (c : Config) (p q : ℕ → Bool) → IsQuorum c p → IsQuorum c q → ShareVoter c p q
quorums_meet c p q first second =
    incoming_shares c p q (λ _. true) (majorities_meet c.incoming p q (incoming_majority c p first) (incoming_majority c q second))

within_step : (a b : Bool) (n m k : ℕ) → n ≤ m + k → cond a 1 0 + n ≤ (cond (a && b) 1 0 + m) + (cond (not b) 1 0 + k)
within_step a b n m k h = grind arith

-- what passes one test passes another with it, or fails that
count_within : (p r : ℕ → Bool) (xs : List ℕ) → count_by p xs ≤ count_by (λ y. p y && r y) xs + count_by (λ y. not (r y)) xs
count_within p r [] = omega arith
count_within p r (x ∷ xs) =
    rw (count-cons p x xs, count-cons (λ y. p y && r y) x xs, count-cons (λ y. not (r y)) x xs)
    (within_step (p x) (r x) _ _ _ (count_within p r xs))

split_step : (b : Bool) (n m k : ℕ) → n ≡ m + k → suc n ≡ (cond b 1 0 + m) + (cond (not b) 1 0 + k)
split_step b n m k h = grind arith

count_split : (r : ℕ → Bool) (xs : List ℕ) → length xs ≡ count_by r xs + count_by (λ y. not (r y)) xs
count_split r [] = refl
count_split r (x ∷ xs) = rw (count-cons r x xs, count-cons (λ y. not (r y)) x xs) (split_step (r x) _ _ _ (count_split r xs))

-- one id more in a set counts once in another
add_step : (p : ℕ → Bool) (x y : ℕ) (xs ys : List ℕ) (d : ℕ) → has xs x ≡ false → has ys y ≡ false
    → cond (p y && (if x == y then true else has xs y)) 1 0 + (cond (p x && has ys x) 1 0 + d) ≡ cond (p x && (if y == x then true else has ys x)) 1 0 + (cond (p y && has xs y) 1 0 + d)
add_step p x y xs ys d none none' = grind (arith, nat_tests)

add_first : (p : ℕ → Bool) (x : ℕ) (xs ys : List ℕ) → has xs x ≡ false → IsAscending ys
    → count_by (λ y. p y && (if x == y then true else has xs y)) ys ≡ cond (p x && has ys x) 1 0 + count_by (λ y. p y && has xs y) ys
add_first p x xs [] none up = rw (and_false (p x)) refl
add_first p x xs (y ∷ ys) none up =
    rw (count-cons (λ y. p y && (if x == y then true else has xs y)) y ys, count-cons (λ y. p y && has xs y) y ys, add_first p x xs ys none up.1)
    (add_step p x y xs ys (count_by (λ y. p y && has xs y) ys) none (has_below ys y up.0))

-- what two sets have in common counts the same in both
pub count_common : (p : ℕ → Bool) (xs ys : List ℕ) → IsAscending xs → IsAscending ys → count_by (λ x. p x && has ys x) xs ≡ count_by (λ y. p y && has xs y) ys
count_common p [] ys up up' = sym (count_none (λ y. p y && false) ys (λ y. and_false (p y)))
count_common p (x ∷ xs) ys up up' =
    count-cons (λ x. p x && has ys x) x xs
    ∙ (ap (λ n. cond (p x && has ys x) 1 0 + n) (count_common p xs ys up.1 up')
    ∙ sym (add_first p x xs ys (has_below xs x up.0) up'))

-- where two sets differ in at most one voter, a majority of one and one of the other share a voter
pub near_majorities_meet : (old new : List ℕ) (p q : ℕ → Bool) → IsAscending old → IsAscending new → differing old new ≤ 1 → IsMajority old p → IsMajority new q → Found p q (has new) old
near_majorities_meet old new p q up up' near first second =
    let a = majority_more (length old) (count_by p old) first.some first.decides in
    let b = majority_more (length new) (count_by q new) second.some second.decides in
    let p_within = count_within p (has new) old in
    let q_within = count_within q (has old) new in
    let old_split = count_split (has new) old in
    let new_split = count_split (has old) new in
    let both_ways = count_common (λ _. true) old new up up' in
    let q_common = count_common q old new up up' in
    meet p q (has new) old (omega arith)
