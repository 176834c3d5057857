-- Laws of the entries that give way to an append.
use Rattle.std.proofs.Common.{◌≡◌, ℕ, ◌+◌, ◌-◌, ◌<◌, ◌≤◌, true, false, List, [], length, Option, Some, Ok, refl, ap, sym, ◌∙◌, arith, ltb, inl, inr, length-drop}
use Rattle.std.proofs.lemmas.Bool.{lt-ltb, le-ltb, cond-true, cond-false, cases_Bool, cases_lt}
use Rattle.std.proofs.lemmas.List.{drop_all}
use Rattle.std.specs.List.{slice_get}
use Rattle.rb_raftlog.specs.declared.entry.Entry.{Entry}
use Rattle.rb_raftlog.specs.Laws.{HasLost, AreMatching, AreOfLog}
use Rattle.rb_raftlog.specs.Log.{LogValue, last, term_at, entry_at, found, is_term, first_new, replaced, replaced_entries, entries_after, appended, given_way}
use Rattle.rb_raftlog.proofs.TermLaws.{slice_get_drop}
use Rattle.rb_raftlog.proofs.AppendLaws.{put, put_entry_below, first_differs, in_place, new_within, appended_below, appended_refused, appended_matched, by_option}
use Rattle.rb_raftlog.proofs.PlaceLaws.{entry_after}
use Rattle.rb_raftlog.proofs.MatchLaws.{entry_term, appended-matches}

-- ---- case by case

given_below : (v : LogValue) (prev term commit : ℕ) (es : List Entry) → prev < commit → given_way v prev term es commit ≡ []
given_below v prev term commit es h = cond-true (ltb prev commit) [] _ (lt-ltb prev commit h)

given_refused : (v : LogValue) (prev term commit : ℕ) (es : List Entry) → commit ≤ prev → is_term (term_at v prev) term ≡ false → given_way v prev term es commit ≡ []
given_refused v prev term commit es over fails =
    cond-false (ltb prev commit) [] _ (le-ltb prev commit over) ∙ cond-false (is_term (term_at v prev) term) _ [] fails

given_matched : (v : LogValue) (prev term commit : ℕ) (es : List Entry) → commit ≤ prev → is_term (term_at v prev) term ≡ true
    → given_way v prev term es commit ≡ replaced_entries v (first_new v (prev + 1) es)
given_matched v prev term commit es over holds =
    cond-false (ltb prev commit) [] _ (le-ltb prev commit over) ∙ cond-true (is_term (term_at v prev) term) _ [] holds

-- what holds where nothing gives way, and where the entries from an index on do, holds of every append
by_given : (v : LogValue) (prev term commit : ℕ) (es : List Entry) (P : LogValue → List Entry → Type 0) → P v []
    → ((c : ℕ) → commit ≤ prev → is_term (term_at v prev) term ≡ true → first_new v (prev + 1) es ≡ Some c → P (put v prev es c) (entries_after v (c - 1)))
    → P (appended v prev term es commit) (given_way v prev term es commit)
by_given v prev term commit es P stays puts =
    elim (cases_lt prev commit) as (λ _. P (appended v prev term es commit) (given_way v prev term es commit)) [
      | inl under ↦ rw (appended_below v prev term commit es under, given_below v prev term commit es under) stays
      | inr over ↦
          elim (cases_Bool (is_term (term_at v prev) term)) as (λ _. P (appended v prev term es commit) (given_way v prev term es commit)) [
            | inr fails ↦ rw (appended_refused v prev term commit es fails, given_refused v prev term commit es over fails) stays
            | inl holds ↦
                rw (appended_matched v prev term commit es over holds, given_matched v prev term commit es over holds)
                (by_option (first_new v (prev + 1) es) (λ o. P (replaced v prev es o) (replaced_entries v o)) (λ _. stays) (λ c e. puts c over holds e))
          ]
    ]

-- ---- which they are

-- the entries from an index on begin there
begin_at : (v : LogValue) (c : ℕ) → v.base < c → c ≤ last v + 1 → last v - length (entries_after v (c - 1)) + 1 ≡ c
begin_at v c above high = omega (arith, length-drop (c - 1 - v.base) v.entries)

after_item : (v : LogValue) (c k : ℕ) (e : Entry) → v.base < c → slice_get (entries_after v (c - 1)) k ≡ Some e → entry_at v (c + k) ≡ Ok e
after_item v c k e above at =
    let index : c + k ≡ c - 1 + 1 + k = omega (arith, above) in
    ap (entry_at v) index ∙ entry_after v (c - 1) k (omega (arith, above))
    ∙ ap (λ (o : Option Entry). found o) (sym (slice_get_drop v.entries (c - 1 - v.base) k) ∙ at)

-- nothing is lost
keeps : (v : LogValue) → HasLost v v []
keeps v = record { were_last = λ k e at. cc; others_stay = λ i low. refl; first_goes = λ e at. cc }

put_loses : (v : LogValue) (prev term c : ℕ) (es : List Entry) → is_term (term_at v prev) term ≡ true → first_new v (prev + 1) es ≡ Some c
    → HasLost v (put v prev es c) (entries_after v (c - 1))
put_loses v prev term c es holds new =
    let there = in_place v prev term c es holds new in
    let above : v.base < c = omega (arith, there.0, there.1) in
    let begin : last v - length (entries_after v (c - 1)) + 1 ≡ c = begin_at v c above there.2 in
    record {
      were_last = λ k e at. ap (λ (n : ℕ). entry_at v (n + k)) begin ∙ after_item v c k e above at;
      others_stay = λ i low. put_entry_below v prev c i es (omega (arith, low, begin)) there.2;
      first_goes = λ e at held.
          (let index : c + 0 ≡ c = omega arith in
          let was : term_at v c ≡ Ok e.term = sym (ap (term_at v) index) ∙ (entry_term v (c + 0) e (after_item v c 0 e above at)).1 in
          first_differs v prev c es there.0 there.1 there.2 new (was ∙ sym (sym (ap (term_at (put v prev es c)) begin) ∙ held)));
    }

pub lost : (v : LogValue) (prev term commit : ℕ) (es : List Entry) → HasLost v (appended v prev term es commit) (given_way v prev term es commit)
lost v prev term commit es = by_given v prev term commit es (λ w gone. HasLost v w gone) (keeps v) (λ c over holds e. put_loses v prev term c es holds e)

-- ---- where the logs match

self-matches : (v : LogValue) → AreMatching v v
self-matches v = record { terms = λ i j t at there low above over. refl; entries = λ i j t at there low above over. refl }

-- none of them is there any more
pub all-gone : (v w : LogValue) (prev term commit k : ℕ) (es : List Entry) (e : Entry) → AreMatching v w → term_at w prev ≡ Ok term → AreOfLog w prev es
    → slice_get (given_way v prev term es commit) k ≡ Some e
    → term_at (appended v prev term es commit) (last v - length (given_way v prev term es commit) + 1 + k) ≡ Ok e.term → ⊥
all-gone v w prev term commit k es e matching prev_w of_w =
    let after = appended-matches v v w prev term commit es (self-matches v) matching matching prev_w of_w in
    by_given v prev term commit es (λ x gone. AreMatching v x → slice_get gone k ≡ Some e → term_at x (last v - length gone + 1 + k) ≡ Ok e.term → ⊥)
    (λ m at held. cc)
    (λ c over holds new m at held.
    (let there = in_place v prev term c es holds new in
    let above : v.base < c = omega (arith, there.0, there.1) in
    let begin : last v - length (entries_after v (c - 1)) + 1 ≡ c = begin_at v c above there.2 in
    let was : term_at v (c + k) ≡ Ok e.term = (entry_term v (c + k) e (after_item v c k e above at)).1 in
    let is : term_at (put v prev es c) (c + k) ≡ Ok e.term = sym (ap (λ (n : ℕ). term_at (put v prev es c) (n + k)) begin) ∙ held in
    let same : term_at v c ≡ term_at (put v prev es c) c = m.terms (c + k) c e.term was is (omega arith) (omega (arith, above)) (omega (arith, above)) in
    first_differs v prev c es there.0 there.1 there.2 new same))
    after

-- ---- a log that ends before

-- nothing gives way where the log ends at prev or before
pub none_past : (v : LogValue) (prev term commit : ℕ) (es : List Entry) → last v ≤ prev → given_way v prev term es commit ≡ []
none_past v prev term commit es low =
    by_given v prev term commit es (λ _ gone. gone ≡ []) refl
    (λ c over holds e.
    (let within = new_within v es (prev + 1) c e in drop_all (c - 1 - v.base) v.entries (omega (arith, low, within.0))))
