-- What each change of a leader's view leaves of it: that it is sound, and what it matches
use Rattle.std.proofs.Common.{[], ℕ, Bool, ◌<◌, arith, ◌≤◌, nat_le, ◌&&◌, not, ◌≡◌, true, length, ◌++◌, ◌∷◌, ◌+◌, length-append, List, filter, nat_lt, refl, Some, zero, subst, suc, take, drop, nat_eq, ◌==◌, false, map, Option, cond, ◌∙◌, ap, sym}
use Rattle.std.proofs.lemmas.Bool.{and_parts, leb-true, eqb-false, not-true}
use Rattle.std.specs.List.{insert}
use Rattle.std.specs.Map.{remove_entry, lookup}
use Rattle.indexmap.specs.Layout.{set_value_at}
use Rattle.rb_tracker.proofs.SetLaws.{if_both}
use Rattle.rb_tracker.specs.Active.{inactive_unless_own}
use Rattle.rb_tracker.specs.Commits.{match_in, match_of}
use Rattle.rb_tracker.specs.Progresses.{probing, own_view, PlainProgress, with_active, resumed, probed, snapshotting, replicating, sent_up_to, sent_in, sent, matching, acked_in, acked, freed_in, freed_through, refused_in, refused}
use Rattle.rb_tracker.specs.Trackers.{view_at}
use Rattle.rb_tracker.specs.Windows.{is_full, PlainWindow, freed}
use Rattle.rb_tracker.specs.declared.progress.ProgressState.{ProgressState}
use Rattle.rb_tracker.specs.declared.progress.ProgressState.TheVariants as state
use Rattle.rb_node.specs.Calls.{unreachable}
use Rattle.rb_node.specs.Sends.{is_replicating}
use Rattle.rb_calls.specs.Sound.{IsSoundView, AreSoundViews}

-- ---- one view

pub new_probe : (capacity next : ℕ) (active : Bool) → 0 < next → IsSoundView (probing capacity next active)
new_probe capacity next active some = record { ahead = some; within = omega arith }

pub new_own : (capacity matched next : ℕ) → matched < next → IsSoundView (own_view capacity matched next)
new_own capacity matched next ahead = record { ahead = ahead; within = omega arith }

pub sound_marked : (p : PlainProgress) (active : Bool) → IsSoundView p → IsSoundView (with_active p active)
sound_marked p active is = record { ahead = is.ahead; within = is.within }

pub sound_resumed : (p : PlainProgress) → IsSoundView p → IsSoundView (resumed p)
sound_resumed p is = record { ahead = is.ahead; within = is.within }

pub sound_probed : (p : PlainProgress) → IsSoundView (probed p)
sound_probed p = record { ahead = omega arith; within = omega arith }

pub sound_snapshotting : (p : PlainProgress) (index : ℕ) → p.matched ≤ index → IsSoundView (snapshotting p index)
sound_snapshotting p index far = record { ahead = omega (arith, far); within = omega arith }

sound_replicating : (p : PlainProgress) → IsSoundView (replicating p)
sound_replicating p = record { ahead = omega arith; within = omega arith }

sound_pushed : (p : PlainProgress) (last : ℕ) → IsSoundView p → (nat_le p.next last && not (is_full p.window)) ≡ true → IsSoundView (sent_up_to p last)
sound_pushed p last is can =
    let parts = and_parts (nat_le p.next last) (not (is_full p.window)) can in
    let up = leb-true p.next last parts.0 in
    let apart : length p.window.in_flight ≡ p.window.capacity → ⊥ = eqb-false (length p.window.in_flight) p.window.capacity (not-true (is_full p.window) parts.1) in
    let ahead = is.ahead in
    let within = is.within in
    let size : length (p.window.in_flight ++ last ∷ []) ≡ length p.window.in_flight + 1 = length-append p.window.in_flight (last ∷ []) in
    record { ahead = omega (arith, ahead, up); within = omega (arith, within, apart, size) }

sound_sent_in : (s : ProgressState) (p : PlainProgress) (last : ℕ) → IsSoundView p → IsSoundView (sent_in s p last)
sound_sent_in state.Probe p last is = record { ahead = is.ahead; within = is.within }
sound_sent_in state.Replicate p last is =
    if_both IsSoundView (nat_le p.next last && not (is_full p.window)) (sent_up_to p last) p (λ can. sound_pushed p last is can) (λ _. is)
sound_sent_in state.Snapshot p last is = is

pub sound_sent : (p : PlainProgress) (last : ℕ) → IsSoundView p → IsSoundView (sent p last)
sound_sent p last is = sound_sent_in p.state p last is

filter_less : (p : ℕ → Bool) (xs : List ℕ) → length (filter p xs) ≤ length xs
filter_less p [] = omega arith
filter_less p (x ∷ xs) =
    let rest : length (filter p xs) ≤ length xs = filter_less p xs in
    if_both (λ (l : List ℕ). length l ≤ length (x ∷ xs)) (p x) (x ∷ filter p xs) (filter p xs) (λ _. omega (arith, rest)) (λ _. omega (arith, rest))

freed_within : (w : PlainWindow) (index : ℕ) → length w.in_flight ≤ w.capacity → length (freed w index).in_flight ≤ w.capacity
freed_within w index within = let less = filter_less (λ i. nat_lt index i) w.in_flight in omega (arith, within, less)

sound_matching : (p : PlainProgress) (index : ℕ) → IsSoundView p → IsSoundView (matching p index)
sound_matching p index is = record { ahead = omega arith; within = is.within }

sound_acked_in : (s : ProgressState) (p : PlainProgress) (index : ℕ) → IsSoundView p → IsSoundView (acked_in s p index)
sound_acked_in state.Probe p index is = sound_replicating (matching p index)
sound_acked_in state.Replicate p index is = record { ahead = omega arith; within = freed_within p.window index is.within }
sound_acked_in state.Snapshot p index is =
    if_both IsSoundView (nat_le p.pending index) (replicating (matching p index)) (matching p index)
    (λ _. sound_replicating (matching p index)) (λ _. sound_matching p index is)

pub sound_acked : (p : PlainProgress) (index : ℕ) → IsSoundView p → IsSoundView (acked p index)
sound_acked p index is = sound_acked_in p.state p index is

sound_freed_in : (s : ProgressState) (p : PlainProgress) (index : ℕ) → IsSoundView p → IsSoundView (freed_in s p index)
sound_freed_in state.Probe p index is = is
sound_freed_in state.Replicate p index is = record { ahead = is.ahead; within = freed_within p.window index is.within }
sound_freed_in state.Snapshot p index is = is

pub sound_freed : (p : PlainProgress) (index : ℕ) → IsSoundView p → IsSoundView (freed_through p index)
sound_freed p index is = sound_freed_in p.state p index is

sound_refused_in : (s : ProgressState) (p : PlainProgress) (index hint : ℕ) → IsSoundView p → IsSoundView (refused_in s p index hint)
sound_refused_in state.Probe p index hint is = record { ahead = omega arith; within = is.within }
sound_refused_in state.Replicate p index hint is = sound_probed p
sound_refused_in state.Snapshot p index hint is = is

pub sound_refused : (p : PlainProgress) (index hint : ℕ) → IsSoundView p → IsSoundView (refused p index hint)
sound_refused p index hint is = sound_refused_in p.state p index hint is

pub sound_unreachable : (view : PlainProgress) → IsSoundView view → IsSoundView (unreachable view)
sound_unreachable view is = if_both IsSoundView (is_replicating view.state) (probed view) view (λ _. sound_probed view) (λ _. is)

-- ---- what it matches

pub sent_match : (s : ProgressState) (view : PlainProgress) (last : ℕ) → (sent_in s view last).matched ≡ view.matched
sent_match state.Probe view last = refl
sent_match state.Replicate view last = if_both (λ (v : PlainProgress). v.matched ≡ view.matched) (nat_le view.next last && not (is_full view.window)) _ _ (λ _. refl) (λ _. refl)
sent_match state.Snapshot view last = refl

pub acked_matched : (s : ProgressState) (view : PlainProgress) (i : ℕ) → (acked_in s view i).matched ≡ i
acked_matched state.Probe view i = refl
acked_matched state.Replicate view i = refl
acked_matched state.Snapshot view i = if_both (λ (v : PlainProgress). v.matched ≡ i) (nat_le view.pending i) _ _ (λ _. refl) (λ _. refl)

pub freed_matched : (s : ProgressState) (view : PlainProgress) (i : ℕ) → (freed_in s view i).matched ≡ view.matched
freed_matched state.Probe view i = refl
freed_matched state.Replicate view i = refl
freed_matched state.Snapshot view i = refl

pub refused_matched : (s : ProgressState) (view : PlainProgress) (i hint : ℕ) → (refused_in s view i hint).matched ≡ view.matched
refused_matched state.Probe view i hint = refl
refused_matched state.Replicate view i hint = refl
refused_matched state.Snapshot view i hint = refl

pub unreachable_matched : (view : PlainProgress) → (unreachable view).matched ≡ view.matched
unreachable_matched view = if_both (λ (v : PlainProgress). v.matched ≡ view.matched) (is_replicating view.state) (probed view) view (λ _. refl) (λ _. refl)

-- ---- all views

pub sound_at : (es : List (ℕ × PlainProgress)) (at : ℕ) (view : PlainProgress) → AreSoundViews es → view_at es at ≡ Some view → IsSoundView view
sound_at [] at view are is = cc
sound_at (e ∷ es) zero view are is = let same : e.1 ≡ view = cc in subst IsSoundView same are.0
sound_at (e ∷ es) (suc at) view are is = sound_at es at view are.1 is

pub sound_set : (es : List (ℕ × PlainProgress)) (at : ℕ) (view : PlainProgress) → AreSoundViews es → IsSoundView view → AreSoundViews (set_value_at es at view)
sound_set [] at view are is = tt
sound_set (e ∷ es) zero view are is = (is, are.1)
sound_set (e ∷ es) (suc at) view are is = (are.0, sound_set es at view are.1 is)

sound_take : (es : List (ℕ × PlainProgress)) (i : ℕ) → AreSoundViews es → AreSoundViews (take i es)
sound_take es zero are = tt
sound_take [] (suc i) are = tt
sound_take (e ∷ es) (suc i) are = (are.0, sound_take es i are.1)

sound_drop : (es : List (ℕ × PlainProgress)) (i : ℕ) → AreSoundViews es → AreSoundViews (drop i es)
sound_drop es zero are = are
sound_drop [] (suc i) are = tt
sound_drop (e ∷ es) (suc i) are = sound_drop es i are.1

sound_both : (es fs : List (ℕ × PlainProgress)) → AreSoundViews es → AreSoundViews fs → AreSoundViews (es ++ fs)
sound_both [] fs are more = more
sound_both (e ∷ es) fs are more = (are.0, sound_both es fs are.1 more)

pub sound_put : (es : List (ℕ × PlainProgress)) (i id : ℕ) (view : PlainProgress) → AreSoundViews es → IsSoundView view → AreSoundViews (insert es i (id, view))
sound_put es i id view are is = sound_both (take i es) ((id, view) ∷ drop i es) (sound_take es i are) (is, sound_drop es i are)

pub sound_removed : (id : ℕ) (es : List (ℕ × PlainProgress)) → AreSoundViews es → AreSoundViews (remove_entry (nat_eq id) es)
sound_removed id [] are = tt
sound_removed id (e ∷ es) are =
    if_both AreSoundViews (nat_eq id e.0) es (e ∷ remove_entry (nat_eq id) es) (λ _. are.1) (λ _. (are.0, sound_removed id es are.1))

sound_unmarked_one : (own : ℕ) (e : ℕ × PlainProgress) → IsSoundView e.1 → IsSoundView (inactive_unless_own own e).1
sound_unmarked_one own e is = if_both (λ (f : ℕ × PlainProgress). IsSoundView f.1) (e.0 == own) e (e.0, with_active e.1 false) (λ _. is) (λ _. sound_marked e.1 false is)

pub sound_unmarked : (own : ℕ) (es : List (ℕ × PlainProgress)) → AreSoundViews es → AreSoundViews (map (inactive_unless_own own) es)
sound_unmarked own [] are = tt
sound_unmarked own (e ∷ es) are = (sound_unmarked_one own e are.0, sound_unmarked own es are.1)

-- a view that is written with the same match
here : (b : Bool) (x y : PlainProgress) (rest : Option PlainProgress) → y.matched ≡ x.matched → match_in (cond b (Some y) rest) ≡ match_in (cond b (Some x) rest)
here true x y rest e = e
here false x y rest e = refl

there : (b : Bool) (x : PlainProgress) (r s : Option PlainProgress) → match_in r ≡ match_in s → match_in (cond b (Some x) r) ≡ match_in (cond b (Some x) s)
there true x r s e = refl
there false x r s e = e

pub same_match : (views : List (ℕ × PlainProgress)) (at : ℕ) (view new : PlainProgress) (id : ℕ) → view_at views at ≡ Some view → new.matched ≡ view.matched → match_of (set_value_at views at new) id ≡ match_of views id
same_match [] at view new id is e = refl
same_match (x ∷ xs) zero view new id is e =
    let first : x.1 ≡ view = cc in
    here (nat_eq id x.0) x.1 new (lookup (nat_eq id) xs) (e ∙ ap (λ (v : PlainProgress). v.matched) (sym first))
same_match (x ∷ xs) (suc at) view new id is e =
    there (nat_eq id x.0) x.1 (lookup (nat_eq id) (set_value_at xs at new)) (lookup (nat_eq id) xs) (same_match xs at view new id is e)
