-- What a leader knows a member to hold, by its views: each view that is written, put in or taken out
use Rattle.std.proofs.Common.{[], ℕ, nat_eq, ◌≡◌, true, arith, ◌⊎◌, Bool, Option, cond, Some, inr, refl, false, inl, List, ◌<◌, length, get_or, ◌∷◌, zero, ◌∙◌, sym, suc, take, ◌++◌, drop, None, ◌==◌, eqb-true, ap, ◌≤◌, subst, map}
use Rattle.std.proofs.lemmas.Bool.{cases_Bool, cond-true, eqb-false, cond-false}
use Rattle.std.proofs.lemmas.Bool.Decides.{nat_tests}
use Rattle.std.proofs.lemmas.List.Quantifiers.{position-Some}
use Rattle.std.specs.Map.{keys_of, lookup, remove_entry}
use Rattle.std.specs.Prelude.{position}
use Rattle.indexmap.specs.Layout.{set_value_at}
use Rattle.rb_tracker.proofs.SetLaws.{self_id, if_both}
use Rattle.rb_tracker.specs.Active.{with_active_by, with_active_at, inactive_unless_own}
use Rattle.rb_tracker.specs.Commits.{match_of, match_in}
use Rattle.rb_tracker.specs.Configs.{is_member}
use Rattle.rb_tracker.specs.Progresses.{PlainProgress, with_active}
use Rattle.rb_tracker.specs.Sets.{rank, AreAbove}
use Rattle.rb_tracker.specs.Trackers.{place, has_view, with_new, view_at, AreInOrder}
use Rattle.rb_node.specs.Acknowledging.{marked_active}
use Rattle.rb_node.specs.Changing.{without_view, without_views}
use Rattle.rb_node.specs.Leading.{new_view, with_view_of, with_views}
use Rattle.rb_node.specs.Node.{PlainNode}
use Rattle.rb_calls.proofs.Goes.{core, Core}
use Rattle.rb_calls.proofs.LeaderLaws.{with_view_only}
use Rattle.rb_calls.proofs.MemberLaws.{ids_set, strangers_in_order}

abbrev pub of : PlainNode → ℕ → ℕ
of n id = match_of n.tracker.views id

-- ---- a view that is written, or a new one, changes the match of its member alone

nat_eq_is : (x y : ℕ) → nat_eq x y ≡ true → x ≡ y
nat_eq_is x y h = grind (arith, nat_tests)

abbrev Alone : ℕ → ℕ → ℕ → ℕ → ℕ → Type 0
Alone new old id changed matched = (new ≡ old) ⊎ ((id ≡ changed) × (new ≡ matched))

here_alone : (b : Bool) (id changed : ℕ) (x new : PlainProgress) (rest : Option PlainProgress) → (b ≡ true → id ≡ changed) → Alone (match_in (cond b (Some new) rest)) (match_in (cond b (Some x) rest)) id changed new.matched
here_alone true id changed x new rest h = inr (h refl, refl)
here_alone false id changed x new rest h = inl refl

first_alone : (b : Bool) (id changed : ℕ) (new : PlainProgress) (rest : Option PlainProgress) → (b ≡ true → id ≡ changed) → Alone (match_in (cond b (Some new) rest)) (match_in rest) id changed new.matched
first_alone true id changed new rest h = inr (h refl, refl)
first_alone false id changed new rest h = inl refl

there_alone : (b : Bool) (id changed matched : ℕ) (x : PlainProgress) (r s : Option PlainProgress) → Alone (match_in r) (match_in s) id changed matched → Alone (match_in (cond b (Some x) r)) (match_in (cond b (Some x) s)) id changed matched
there_alone true id changed matched x r s h = inl refl
there_alone false id changed matched x r s h = h

set_alone : (views : List (ℕ × PlainProgress)) (at from id : ℕ) (new : PlainProgress) → at < length (keys_of views) → from ≡ get_or (keys_of views) at 0 → Alone (match_of (set_value_at views at new) id) (match_of views id) id from new.matched
set_alone [] at from id new low e = absurd (omega (arith, low))
set_alone (x ∷ xs) zero from id new low e = here_alone (nat_eq id x.0) id from x.1 new (lookup (nat_eq id) xs) (λ is. nat_eq_is id x.0 is ∙ sym e)
set_alone (x ∷ xs) (suc at) from id new low e =
    there_alone (nat_eq id x.0) id from new.matched x.1 (lookup (nat_eq id) (set_value_at xs at new)) (lookup (nat_eq id) xs) (set_alone xs at from id new (omega (arith, low)) e)

put_alone : (views : List (ℕ × PlainProgress)) (i changed id : ℕ) (new : PlainProgress) → Alone (match_of (take i views ++ (changed, new) ∷ drop i views) id) (match_of views id) id changed new.matched
put_alone views zero changed id new = first_alone (nat_eq id changed) id changed new (lookup (nat_eq id) views) (λ is. nat_eq_is id changed is)
put_alone [] (suc i) changed id new = first_alone (nat_eq id changed) id changed new None (λ is. nat_eq_is id changed is)
put_alone (x ∷ xs) (suc i) changed id new =
    there_alone (nat_eq id x.0) id changed new.matched x.1 (lookup (nat_eq id) (take i xs ++ (changed, new) ∷ drop i xs)) (lookup (nat_eq id) xs) (put_alone xs i changed id new)

-- the view at a member's place is written
pub place_set : (views : List (ℕ × PlainProgress)) (at from id : ℕ) (new : PlainProgress) → place views from ≡ Some at → Alone (match_of (set_value_at views at new) id) (match_of views id) id from new.matched
place_set views at from id new is =
    let found = position-Some (λ (k : ℕ). from == k) (keys_of views) at 0 is in
    set_alone views at from id new found.0 (eqb-true from (get_or (keys_of views) at 0) found.1)

nat_eq_not : (x y : ℕ) → (x ≡ y → ⊥) → nat_eq x y ≡ false
nat_eq_not x y h =
    elim (cases_Bool (nat_eq x y)) as (λ _. nat_eq x y ≡ false) [
      | inl same ↦ absurd (h (nat_eq_is x y same))
      | inr other ↦ other
    ]

set_here : (views : List (ℕ × PlainProgress)) (at from : ℕ) (new : PlainProgress) → at < length (keys_of views) → (from == get_or (keys_of views) at 0) ≡ true → ((k : ℕ) → k < at → (from == get_or (keys_of views) k 0) ≡ false) → match_of (set_value_at views at new) from ≡ new.matched
set_here [] at from new low here before = absurd (omega (arith, low))
set_here (x ∷ xs) zero from new low here before =
    let same : from ≡ x.0 = eqb-true from x.0 here in
    let is : nat_eq from x.0 ≡ true = rw same (self_id x.0) in
    ap match_in (cond-true (nat_eq from x.0) (Some new) (lookup (nat_eq from) xs) is)
set_here (x ∷ xs) (suc at) from new low here before =
    let other : nat_eq from x.0 ≡ false = nat_eq_not from x.0 (eqb-false from x.0 (before zero (omega arith))) in
    ap match_in (cond-false (nat_eq from x.0) (Some x.1) (lookup (nat_eq from) (set_value_at xs at new)) other)
    ∙ set_here xs at from new (omega (arith, low)) here (λ k under. before (suc k) (omega (arith, under)))

-- its member is then known to hold what it says
pub place_here : (views : List (ℕ × PlainProgress)) (at from : ℕ) (new : PlainProgress) → place views from ≡ Some at → match_of (set_value_at views at new) from ≡ new.matched
place_here views at from new is =
    let found = position-Some (λ (k : ℕ). from == k) (keys_of views) at 0 is in
    set_here views at from new found.0 found.1 found.2

-- ---- new views

-- a match is no more than before, or of the node itself and durable
abbrev pub OwnAtMost : PlainNode → PlainNode → ℕ → Type 0
OwnAtMost a b id = (of b id ≤ of a id) ⊎ ((id ≡ a.id) × (of b id ≤ a.log.durable))

new_at_most : (n : PlainNode) (changed id : ℕ) (active : Bool) (was now : ℕ) → id ≡ changed → now ≡ (new_view n changed active).matched → (now ≤ was) ⊎ ((id ≡ n.id) × (now ≤ n.log.durable))
new_at_most n changed id active was now is =
    if_both (λ (v : PlainProgress). now ≡ v.matched → (now ≤ was) ⊎ ((id ≡ n.id) × (now ≤ n.log.durable))) (changed == n.id) _ _
    (λ own e. inr (is ∙ eqb-true changed n.id own, omega (arith, e))) (λ _ e. inl (omega (arith, e)))

with_view_at_most : (n : PlainNode) (changed : ℕ) (active : Bool) (id : ℕ) → OwnAtMost n (with_view_of n changed active) id
with_view_at_most n changed active id =
    if_both (λ (x : PlainNode). OwnAtMost n x id) (has_view n.tracker.views changed) _ _ (λ _. inl (omega arith))
    (λ _. elim (put_alone n.tracker.views (rank (keys_of n.tracker.views) changed) changed id (new_view n changed active)) as (λ _. OwnAtMost n (record n { tracker = with_new n.tracker changed (new_view n changed active) }) id) [
      | inl stays ↦ inl (omega (arith, stays))
      | inr here ↦ new_at_most n changed id active (of n id) (match_of (with_new n.tracker changed (new_view n changed active)).views id) here.0 here.1
    ])

at_most_then : (a b c : PlainNode) (id : ℕ) → core b ≡ core a → OwnAtMost a b id → OwnAtMost b c id → OwnAtMost a c id
at_most_then a b c id e p q =
    let same_id : b.id ≡ a.id = ap (λ (x : Core). x.id) e in
    let same_durable : b.log.durable ≡ a.log.durable = ap (λ (x : Core). x.log.durable) e in
    elim q as (λ _. OwnAtMost a c id) [
      | inr own ↦ (let low = own.1 in inr (own.0 ∙ same_id, omega (arith, low, same_durable)))
      | inl less ↦ elim p as (λ _. OwnAtMost a c id) [
        | inl before ↦ inl (omega (arith, less, before))
        | inr own ↦ (let low = own.1 in inr (own.0, omega (arith, less, low)))
      ]
    ]

pub with_views_at_most : (n : PlainNode) (ids : List ℕ) (active : Bool) (id : ℕ) → OwnAtMost n (with_views n ids active) id
with_views_at_most n [] active id = inl (omega arith)
with_views_at_most n (x ∷ xs) active id =
    at_most_then n (with_view_of n x active) (with_views (with_view_of n x active) xs active) id (ap core (with_view_only n x active))
    (with_view_at_most n x active id) (with_views_at_most (with_view_of n x active) xs active id)

-- ---- who was heard of has its view where it had it

heard_keys_with : (o : Option PlainProgress) (n : PlainNode) (at : ℕ) → keys_of (with_active_by o n.tracker at true).views ≡ keys_of n.tracker.views
heard_keys_with None n at = refl
heard_keys_with (Some view) n at = ids_set n.tracker.views at (with_active view true)

heard_keys : (n : PlainNode) (at : ℕ) → keys_of (marked_active n at).tracker.views ≡ keys_of n.tracker.views
unfolding with_active_at
heard_keys n at = heard_keys_with (view_at n.tracker.views at) n at

pub heard_place : (n : PlainNode) (at from : ℕ) → place n.tracker.views from ≡ Some at → place (marked_active n at).tracker.views from ≡ Some at
heard_place n at from is = ap (λ (ks : List ℕ). position (λ (k : ℕ). from == k) ks) (heard_keys n at) ∙ is

-- ---- views that are taken out

none_above : (views : List (ℕ × PlainProgress)) (id : ℕ) → AreAbove id (keys_of views) → match_of views id ≡ 0
none_above [] id above = refl
none_above (x ∷ xs) id above =
    let low : id < x.0 = above.0 in
    ap match_in (cond-false (nat_eq id x.0) (Some x.1) (lookup (nat_eq id) xs) (nat_eq_not id x.0 (λ e. omega (arith, e, low)))) ∙ none_above xs id above.1

first_less : (b : Bool) (x : ℕ × PlainProgress) (xs : List (ℕ × PlainProgress)) (id : ℕ) → nat_eq id x.0 ≡ b → AreAbove x.0 (keys_of xs) → match_of xs id ≤ match_in (cond b (Some x.1) (lookup (nat_eq id) xs))
first_less true x xs id is above =
    let none : match_of xs id ≡ 0 = none_above xs id (subst (λ (y : ℕ). AreAbove y (keys_of xs)) (sym (nat_eq_is id x.0 is)) above) in
    omega (arith, none)
first_less false x xs id is above = omega arith

later_less : (b : Bool) (x : PlainProgress) (r s : Option PlainProgress) → match_in r ≤ match_in s → match_in (cond b (Some x) r) ≤ match_in (cond b (Some x) s)
later_less true x r s less = omega arith
later_less false x r s less = less

removed_less : (gone : ℕ) (views : List (ℕ × PlainProgress)) (id : ℕ) → AreInOrder views → match_of (remove_entry (nat_eq gone) views) id ≤ match_of views id
removed_less gone [] id up = omega arith
removed_less gone (x ∷ xs) id up =
    if_both (λ (l : List (ℕ × PlainProgress)). match_of l id ≤ match_of (x ∷ xs) id) (nat_eq gone x.0) xs (x ∷ remove_entry (nat_eq gone) xs)
    (λ _. first_less (nat_eq id x.0) x xs id refl up.0)
    (λ _. later_less (nat_eq id x.0) x.1 (lookup (nat_eq id) (remove_entry (nat_eq gone) xs)) (lookup (nat_eq id) xs) (removed_less gone xs id up.1))

without_less : (n : PlainNode) (gone id : ℕ) → AreInOrder n.tracker.views → of (without_view n gone) id ≤ of n id
without_less n gone id up =
    if_both (λ (x : PlainNode). of x id ≤ of n id) (is_member n.tracker.config gone) _ _ (λ _. omega arith) (λ _. removed_less gone n.tracker.views id up)

pub strangers_less : (n : PlainNode) (ids : List ℕ) (id : ℕ) → AreInOrder n.tracker.views → of (without_views n ids) id ≤ of n id
strangers_less n [] id up = omega arith
strangers_less n (x ∷ xs) id up =
    let first = without_less n x id up in
    let rest = strangers_less (without_view n x) xs id (strangers_in_order n (x ∷ []) up) in
    omega (arith, first, rest)

-- ---- marks that are taken off

both_in : (b : Bool) (x y : PlainProgress) (r s : Option PlainProgress) → y.matched ≡ x.matched → match_in r ≡ match_in s → match_in (cond b (Some y) r) ≡ match_in (cond b (Some x) s)
both_in true x y r s e f = e
both_in false x y r s e f = f

pub unmarked_match : (own : ℕ) (views : List (ℕ × PlainProgress)) (id : ℕ) → match_of (map (inactive_unless_own own) views) id ≡ match_of views id
unmarked_match own [] id = refl
unmarked_match own (x ∷ xs) id =
    let rest : match_of (map (inactive_unless_own own) xs) id ≡ match_of xs id = unmarked_match own xs id in
    if_both (λ (f : ℕ × PlainProgress). match_of (f ∷ map (inactive_unless_own own) xs) id ≡ match_of (x ∷ xs) id) (x.0 == own) x (x.0, with_active x.1 false)
    (λ _. both_in (nat_eq id x.0) x.1 x.1 (lookup (nat_eq id) (map (inactive_unless_own own) xs)) (lookup (nat_eq id) xs) refl rest)
    (λ _. both_in (nat_eq id x.0) x.1 (with_active x.1 false) (lookup (nat_eq id) (map (inactive_unless_own own) xs)) (lookup (nat_eq id) xs) refl rest)
