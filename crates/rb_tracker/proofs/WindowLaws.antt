-- Lemmas on windows, and on the views that have them
use Rattle.std.proofs.Common.{◌≡◌, ℕ, ◌+◌, ◌<◌, ◌≤◌, ◌^◌, ◌-◌, Bool, true, false, not, List, [], ◌∷◌, ◌++◌, length, take, filter, slice_get, Some, refl, ap, sym, ◌∙◌, arith, nat_lt, length-append}
use Rattle.std.proofs.lemmas.Bool.Decides.{nat_tests}
use Rattle.std.proofs.lemmas.List.{take_more}
use Rattle.std.proofs.lemmas.List.Filters.{length-filter_both}
use Rattle.std.proofs.lemmas.Option.{slice_get_within, get_or_from_slice_get}
use Rattle.circular_buffer.specs.Buffer.{keep_last}
use Rattle.rb_tracker.specs.Sets.{AreAbove, AreBelow, IsAscending}
use Rattle.rb_tracker.specs.Windows.{PlainWindow, is_full, freed, pushed}
use Rattle.rb_tracker.specs.Progresses.{IsProgress}
use Rattle.rb_tracker.specs.declared.progress.ProgressState.{ProgressState}
use Rattle.rb_tracker.specs.declared.progress.ProgressState.TheVariants.{Replicate}
use Rattle.rb_tracker.proofs.SetLaws.{if_both, above_lower}

below_higher : (high higher : ℕ) (xs : List ℕ) → high ≤ higher → AreBelow high xs → AreBelow higher xs
below_higher high higher [] h below = tt
below_higher high higher (x ∷ xs) h below = (let near : x < high = below.0 in omega arith, below_higher high higher xs h below.1)

below_filter : (p : ℕ → Bool) (high : ℕ) (xs : List ℕ) → AreBelow high xs → AreBelow high (filter p xs)
below_filter p high [] below = tt
below_filter p high (x ∷ xs) below =
    if_both (AreBelow high) (p x) (x ∷ filter p xs) (filter p xs) (λ _. (below.0, below_filter p high xs below.1)) (λ _. below_filter p high xs below.1)

below_push : (high x : ℕ) (xs : List ℕ) → x < high → AreBelow high xs → AreBelow high (xs ++ x ∷ [])
below_push high x [] h below = (h, tt)
below_push high x (y ∷ ys) h below = (below.0, below_push high x ys h below.1)

above_push : (low x : ℕ) (xs : List ℕ) → low < x → AreAbove low xs → AreAbove low (xs ++ x ∷ [])
above_push low x [] h above = (h, tt)
above_push low x (y ∷ ys) h above = (above.0, above_push low x ys h above.1)

-- a number above all goes last
pub ascending_push : (xs : List ℕ) (x : ℕ) → IsAscending xs → AreBelow x xs → IsAscending (xs ++ x ∷ [])
ascending_push [] x up below = (tt, tt)
ascending_push (y ∷ ys) x up below = (above_push y x ys below.0 up.0, ascending_push ys x up.1 below.1)

filter_above : (low : ℕ) (xs : List ℕ) → AreAbove low xs → filter (λ i. nat_lt low i) xs ≡ xs
filter_above low [] above = refl
filter_above low (x ∷ xs) above =
    let in_flight : nat_lt low x ≡ true = let far : low < x = above.0 in grind (arith, nat_tests) in
    rw in_flight (ap (λ l. x ∷ l) (filter_above low xs above.1))

rest_stays : (xs : List ℕ) (index first : ℕ) → slice_get xs 0 ≡ Some first → index < first → IsAscending xs → filter (λ i. nat_lt index i) xs ≡ xs
rest_stays [] index first at h up = cc
rest_stays (x ∷ xs) index first at h up =
    let same : x ≡ first = cc in
    let far : index < x = omega arith in
    filter_above index (x ∷ xs) (far, above_lower index x xs far up.0)

-- where the first index is above one, all are
pub freed_rest : (w : PlainWindow) (index first : ℕ) → slice_get w.in_flight 0 ≡ Some first → index < first → IsAscending w.in_flight → w ≡ freed w index
freed_rest w index first at h up = sym (ap (λ (l : List ℕ). record w { in_flight = l }) (rest_stays w.in_flight index first at h up))

-- two parts that fit are put in whole
pub parts_fit : (xs ys : List ℕ) (n : ℕ) → length (xs ++ ys) ≤ n → keep_last n (keep_last n xs ++ ys) ≡ xs ++ ys
parts_fit xs ys n fits =
    let first : length xs - n ≡ 0 = omega (arith, length-append xs ys) in
    let all : length (xs ++ ys) - n ≡ 0 = omega arith in
    rw (first, all) refl

-- one more item
pub take_more_some : {X : Type 0} (xs : List X) (i : ℕ) (x : X) → slice_get xs i ≡ Some x → take (i + 1) xs ≡ take i xs ++ x ∷ []
take_more_some xs i x h =
    take_more xs i x (slice_get_within xs i x h) ∙ ap (λ y. take i xs ++ y ∷ []) (get_or_from_slice_get xs i x x h)

-- where a view replicates, what is in flight is below what is sent next
pub in_flight_below : (state : ProgressState) (matched next last : ℕ) (w : PlainWindow) → IsProgress state matched next w → state ≡ Replicate → next ≤ last → AreBelow last w.in_flight
in_flight_below Replicate matched next last w is same h = below_higher next last w.in_flight h is.in_use
in_flight_below _ matched next last w is same h = cc

-- a window that is not full has room
room_left : (w : PlainWindow) → length w.in_flight ≤ w.capacity → is_full w ≡ false → length w.in_flight < w.capacity
room_left w within room = grind (arith, nat_tests)

-- one more append in flight
pub sent_stays : (state : ProgressState) (matched next last : ℕ) (w : PlainWindow) → IsProgress state matched next w → is_full w ≡ false → state ≡ Replicate → next ≤ last → last + 1 < 2 ^ 41 → IsProgress state matched (last + 1) (pushed w last)
sent_stays Replicate matched next last w is room same h fits = record {
  matched_fits = is.matched_fits;
  next_fits = fits;
  within = omega (arith, length-append w.in_flight (last ∷ []), room_left w is.within room);
  in_use = below_push (last + 1) last w.in_flight (omega arith) (below_higher next (last + 1) w.in_flight (omega arith) is.in_use);
}
sent_stays _ matched next last w is room same h fits = cc

-- fewer fit too
fewer : (index : ℕ) (w : PlainWindow) → length w.in_flight ≤ w.capacity → length (filter (λ i. nat_lt index i) w.in_flight) ≤ w.capacity
fewer index w within = omega (arith, length-filter_both (λ i. nat_lt index i) (λ i. not (nat_lt index i)) (λ _. refl) w.in_flight)

-- fewer appends in flight, and more to send next
pub freed_stays : (state : ProgressState) (matched next newer later index : ℕ) (w : PlainWindow) → IsProgress state matched next w → newer + 1 < 2 ^ 41 → later < 2 ^ 41 → next ≤ later → IsProgress state newer later (freed w index)
freed_stays Replicate matched next newer later index w is fits fits' h = record {
  matched_fits = fits;
  next_fits = fits';
  within = fewer index w is.within;
  in_use = below_filter (λ i. nat_lt index i) later w.in_flight (below_higher next later w.in_flight h is.in_use);
}
freed_stays _ matched next newer later index w is fits fits' h = record {
  matched_fits = fits;
  next_fits = fits';
  within = fewer index w is.within;
  in_use = ap (filter (λ i. nat_lt index i)) is.in_use;
}
