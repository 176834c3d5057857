-- Lemmas on sets of ids, as ascending lists
use Rattle.std.proofs.Common.{◌≡◌, ℕ, ◌+◌, ◌<◌, Bool, true, false, not, cond, List, [], ◌∷◌, ◌++◌, filter, refl, ap, sym, subst, ◌∙◌, arith, add-one, append_assoc, if◌then◌else◌, nat_lt, ◌==◌}
use Rattle.std.specs.List.{insert}
use Rattle.std.specs.List.Retain.{RetainsInTurn}
use Rattle.std.proofs.lemmas.List.{append-nil}
use Rattle.std.proofs.lemmas.Bool.Decides.{nat_tests}
use Rattle.rb_tracker.specs.Sets.{has, with_id, rank, union, set_of, AreAbove, IsAscending}

-- what holds in both branches
pub if_both : {X : Type 0} (P : X → Type 0) (b : Bool) (x y : X) → (b ≡ true → P x) → (b ≡ false → P y) → P (if b then x else y)
if_both P true x y h k = h refl
if_both P false x y h k = k refl

pub same_id : (x y : ℕ) → (x == y) ≡ true → x ≡ y
same_id x y h = grind (arith, nat_tests)

pub self_id : (x : ℕ) → (x == x) ≡ true
self_id x = grind (arith, nat_tests)

below_id : (x y : ℕ) → nat_lt x y ≡ true → x < y
below_id x y h = grind (arith, nat_tests)

above_id : (x y : ℕ) → nat_lt x y ≡ false → (x == y) ≡ false → y < x
above_id x y h k = grind (arith, nat_tests)

apart_ids : (x y : ℕ) → x < y → (y == x) ≡ false
apart_ids x y h = grind (arith, nat_tests)

apart_ids' : (x y : ℕ) → x < y → (x == y) ≡ false
apart_ids' x y h = grind (arith, nat_tests)

-- who is among some is among more
pub also : (b h : Bool) → h ≡ true → (if b then true else h) ≡ true
also true h e = refl
also false h e = e

pub has_here : (x : ℕ) (xs : List ℕ) → has (x ∷ xs) x ≡ true
has_here x xs = rw (self_id x) refl

-- what is above a number is above a lower one
pub above_lower : (low high : ℕ) (xs : List ℕ) → low < high → AreAbove high xs → AreAbove low xs
above_lower low high [] h above = tt
above_lower low high (x ∷ xs) h above = (let far : high < x = above.0 in omega arith, above_lower low high xs h above.1)

above_with_id : (low id : ℕ) (xs : List ℕ) → low < id → AreAbove low xs → AreAbove low (with_id xs id)
above_with_id low id [] h above = (h, tt)
above_with_id low id (x ∷ xs) h above =
    if_both (AreAbove low) (nat_lt x id) _ _
    (λ _. (above.0, above_with_id low id xs h above.1))
    (λ _. if_both (AreAbove low) (x == id) _ _ (λ _. above) (λ _. (h, above)))

pub ascending_with_id : (xs : List ℕ) (id : ℕ) → IsAscending xs → IsAscending (with_id xs id)
ascending_with_id [] id up = (tt, tt)
ascending_with_id (x ∷ xs) id up =
    if_both IsAscending (nat_lt x id) _ _
    (λ lower. (above_with_id x id xs (below_id x id lower) up.0, ascending_with_id xs id up.1))
    (λ upper. if_both IsAscending (x == id) _ _
    (λ _. up)
    (λ apart. let lt = above_id x id upper apart in ((lt, above_lower id x xs lt up.0), up)))

pub ascending_union : (xs ys : List ℕ) → IsAscending xs → IsAscending (union xs ys)
ascending_union xs [] up = up
ascending_union xs (y ∷ ys) up = ascending_union (with_id xs y) ys (ascending_with_id xs y up)

above_filter : (p : ℕ → Bool) (low : ℕ) (xs : List ℕ) → AreAbove low xs → AreAbove low (filter p xs)
above_filter p low [] above = tt
above_filter p low (x ∷ xs) above =
    if_both (AreAbove low) (p x) (x ∷ filter p xs) (filter p xs) (λ _. (above.0, above_filter p low xs above.1)) (λ _. above_filter p low xs above.1)

pub ascending_filter : (p : ℕ → Bool) (xs : List ℕ) → IsAscending xs → IsAscending (filter p xs)
ascending_filter p [] up = tt
ascending_filter p (x ∷ xs) up =
    if_both IsAscending (p x) (x ∷ filter p xs) (filter p xs) (λ _. (above_filter p x xs up.0, ascending_filter p xs up.1)) (λ _. ascending_filter p xs up.1)

-- an id below all isn't in the set
pub has_below : (xs : List ℕ) (id : ℕ) → AreAbove id xs → has xs id ≡ false
has_below [] id above = refl
has_below (x ∷ xs) id above = rw (apart_ids id x above.0) (has_below xs id above.1)

rank_step : (b : Bool) (x id : ℕ) (xs : List ℕ) → nat_lt x id ≡ b → has xs id ≡ false → insert xs (rank xs id) id ≡ with_id xs id → (x == id) ≡ false → insert (x ∷ xs) (if b then rank xs id + 1 else 0) id ≡ (if b then x ∷ with_id xs id else (if x == id then x ∷ xs else id ∷ x ∷ xs))
rank_step true x id xs e none step apart = rw add-one (ap (λ l. x ∷ l) step)
rank_step false x id xs e none step apart = rw apart refl

lacks : (b r : Bool) → (if b then true else r) ≡ false → (b ≡ false) × (r ≡ false)
lacks true r h = cc
lacks false r h = (refl, h)

-- an id that isn't there is put in at its rank
pub insert_is_with_id : (xs : List ℕ) (id : ℕ) → has xs id ≡ false → insert xs (rank xs id) id ≡ with_id xs id
insert_is_with_id [] id h = refl
insert_is_with_id (x ∷ xs) id h =
    let none = lacks (x == id) (has xs id) h in
    rank_step (nat_lt x id) x id xs refl none.1 (insert_is_with_id xs id none.1) none.0

-- an id that is there is put in no second time
pub with_id_again : (xs : List ℕ) (id : ℕ) → IsAscending xs → has xs id ≡ true → with_id xs id ≡ xs
with_id_again [] id up h = cc
with_id_again (x ∷ xs) id up h =
    if_both (λ l. l ≡ x ∷ xs) (nat_lt x id) _ _
    (λ lower. ap (λ l. x ∷ l) (with_id_again xs id up.1 (let apart = apart_ids' x id (below_id x id lower) in rw apart at h)))
    (λ upper. if_both (λ l. l ≡ x ∷ xs) (x == id) _ _
    (λ _. refl)
    (λ apart. let none = has_below xs id (above_lower id x xs (above_id x id upper apart) up.0) in cc))

pub not_false : (b : Bool) → not b ≡ false → b ≡ true
not_false true h = refl
not_false false h = cc

-- where a test changes neither itself nor what it is asked of, what passes it stays
pub kept_is_filter : {X F : Type 0} (R : F → X → Bool → F → X → Type 0) (test : X → Bool) (f : F)
    → ((x : X) (b : Bool) (g : F) (y : X) → R f x b g y → (b ≡ test x) × (g ≡ f) × (y ≡ x)) → (xs ys : List X) → RetainsInTurn R f xs ys → ys ≡ filter test xs
kept_is_filter R test f says [] ys h = h
kept_is_filter R test f says (x ∷ xs) ys h =
    let said = says x h.0 h.1 h.2 h.3 in
    let rest = kept_is_filter R test f says xs h.4 (subst (λ g. RetainsInTurn R g xs h.4) said.1 h.5) in
    h.6 ∙ (λ i. cond (said.0 i) (said.2 i ∷ rest i) (rest i))

above_middle : (low x : ℕ) (xs ys : List ℕ) → AreAbove low (xs ++ x ∷ ys) → low < x
above_middle low x [] ys above = above.0
above_middle low x (z ∷ zs) ys above = above_middle low x zs ys above.1

last_in : (xs : List ℕ) (x : ℕ) (ys : List ℕ) → IsAscending (xs ++ x ∷ ys) → with_id xs x ≡ xs ++ x ∷ []
last_in [] x ys up = refl
last_in (z ∷ zs) x ys up =
    let far : z < x = above_middle z x zs ys up.0 in
    let lower : nat_lt z x ≡ true = grind (arith, nat_tests) in
    rw lower (ap (λ l. z ∷ l) (last_in zs x ys up.1))

union_rising : (xs ys : List ℕ) → IsAscending (xs ++ ys) → union xs ys ≡ xs ++ ys
union_rising xs [] up = sym (append-nil xs)
union_rising xs (y ∷ ys) up =
    let e = append_assoc xs (y ∷ []) ys in
    rw (last_in xs y ys up) (union_rising (xs ++ y ∷ []) ys (rw e up) ∙ e)

-- the set of an ascending list is the list
pub set_of_ascending : (xs : List ℕ) → IsAscending xs → set_of xs ≡ xs
set_of_ascending xs up = union_rising [] xs up

pub ascending_set_of : (xs : List ℕ) → IsAscending (set_of xs)
ascending_set_of xs = ascending_union [] xs tt
