-- Laws of appending.
use Rattle.std.proofs.Common.{◌≡◌, ℕ, ◌+◌, ◌-◌, ◌<◌, ◌≤◌, Bool, true, false, not, if◌then◌else◌, List, [], ◌∷◌, length, take, drop, Option, Some, None, Result, Ok, refl, ap, sym, ◌∙◌, arith, ltb, length-append, length-drop, inl, inr}
use Rattle.std.proofs.lemmas.Bool.{lt-ltb, le-ltb, cond-true, cond-false, cases_Bool, cases_lt, not-false, false≢true}
use Rattle.std.proofs.lemmas.List.{length-take-le}
use Rattle.std.proofs.lemmas.Option.{slice_get_within}
use Rattle.std.specs.List.{slice_get}
use Rattle.rb_raftlog.specs.declared.entry.Entry.{Entry}
use Rattle.rb_raftlog.specs.declared.limits.TheConstants.{MAX_INDEX}
use Rattle.rb_raftlog.specs.declared.raft_log.LogFault.{LogFault}
use Rattle.rb_raftlog.specs.Log.{LogValue, IsLog, last, term_at, term_of, entry_at, found, is_term, first_new, replaced, appended}
use Rattle.rb_raftlog.proofs.TermLaws.{term_past, entry_past, IsSameUpTo, same_term, same_entry, slice_get_front, slice_get_back, slice_get_drop, is_term_is, is_term_from, held_in}
use Rattle.rb_raftlog.proofs.SearchLaws.{first_that, Finds, finds, finds_none, finds_nothing}

-- ---- the first that is new

-- whether an entry is not held at an index with its term
abbrev is_new : LogValue → ℕ → Entry → Bool
is_new v i e = not (is_term (term_at v i) e.term)

first_new_is : (v : LogValue) (es : List Entry) (i : ℕ) → first_new v i es ≡ first_that (is_new v) i es
first_new_is v [] i = refl
first_new_is v (e ∷ es) i =
    let rest = first_that (is_new v) (i + 1) es in
    rw (first_new_is v es (i + 1))
    (elim (is_term (term_at v i) e.term) as (λ b. (if b then rest else Some i) ≡ (if not b then Some i else rest)) [ true ↦ refl | false ↦ refl ])

held_as : (v : LogValue) (i : ℕ) (e : Entry) → is_new v i e ≡ false → term_at v i ≡ Ok e.term
held_as v i e h = is_term_is (term_at v i) e.term (not-false (is_term (term_at v i) e.term) h)

new_finds : (v : LogValue) (es : List Entry) (i c : ℕ) → first_new v i es ≡ Some c → Finds (is_new v) i es c
new_finds v es i c e = finds (is_new v) es i c (sym (first_new_is v es i) ∙ e)

-- it is one of these, and those before it are held
pub new_within : (v : LogValue) (es : List Entry) (i c : ℕ) → first_new v i es ≡ Some c → (i ≤ c) × (c < i + length es)
new_within v es i c e =
    let found = new_finds v es i c e in
    (omega (arith, found.at), omega (arith, found.at, slice_get_within es found.place found.entry found.is_entry))

-- those before the first new one are held with their terms
pub held_before : (v : LogValue) (es : List Entry) (i c k : ℕ) (x : Entry) → first_new v i es ≡ Some c → i + k < c → slice_get es k ≡ Some x → term_at v (i + k) ≡ Ok x.term
held_before v es i c k x e low at =
    let found = new_finds v es i c e in
    held_as v (i + k) x (found.none k x (omega (arith, found.at, low)) at)

-- where none is new, all are held
held_all : (v : LogValue) (es : List Entry) (i k : ℕ) (x : Entry) → first_new v i es ≡ None → slice_get es k ≡ Some x → term_at v (i + k) ≡ Ok x.term
held_all v es i k x e at = held_as v (i + k) x (finds_none (is_new v) es i k x (sym (first_new_is v es i) ∙ e) at)

-- and the other way round
none_new : (v : LogValue) (es : List Entry) (i : ℕ) → ((k : ℕ) (x : Entry) → slice_get es k ≡ Some x → term_at v (i + k) ≡ Ok x.term) → first_new v i es ≡ None
none_new v es i h = first_new_is v es i ∙ finds_nothing (is_new v) es i (λ k x at. ap not (is_term_from (term_at v (i + k)) x.term (h k x at)))

-- up to just before it there are entries
pub new_after_last : (v : LogValue) (es : List Entry) (i c : ℕ) → i ≤ last v + 1 → first_new v i es ≡ Some c → c ≤ last v + 1
new_after_last v [] i c low e = cc
new_after_last v (x ∷ es) i c low e =
    elim (cases_Bool (is_term (term_at v i) x.term)) as (λ _. c ≤ last v + 1) [
      | inl holds ↦
          let here : (v.base ≤ i) × (i ≤ last v) = held_in v i x.term (is_term_is (term_at v i) x.term holds) in
          new_after_last v es (i + 1) c (omega arith) (rw holds at e)
      | inr fails ↦ let found : Some i ≡ Some c = rw fails at e in let same : i ≡ c = cc in omega arith
    ]

-- ---- what is put in place

abbrev pub put : LogValue → ℕ → List Entry → ℕ → LogValue
put v prev es c = replaced v prev es (Some c)

-- where entries are put there is what was there before, up to the first of them
put_below : (v : LogValue) (prev c : ℕ) (es : List Entry) → c ≤ last v + 1 → IsSameUpTo v (put v prev es c) (c - 1)
put_below v prev c es high = record {
  base = refl;
  base_term = refl;
  entries = λ k low. slice_get_front v.entries (drop (c - 1 - prev) es) (c - 1 - v.base) k (omega (arith, low)) (omega arith);
}

pub put_term_below : (v : LogValue) (prev c i : ℕ) (es : List Entry) → i < c → c ≤ last v + 1 → term_at (put v prev es c) i ≡ term_at v i
put_term_below v prev c i es low high = same_term v (put v prev es c) (c - 1) i (put_below v prev c es high) (omega arith)

pub put_entry_below : (v : LogValue) (prev c i : ℕ) (es : List Entry) → i < c → c ≤ last v + 1 → entry_at (put v prev es c) i ≡ entry_at v i
put_entry_below v prev c i es low high = same_entry v (put v prev es c) (c - 1) i (put_below v prev c es high) (omega arith)

-- how many there are
pub put_size : (v : LogValue) (prev c : ℕ) (es : List Entry) → c ≤ last v + 1 → length (put v prev es c).entries ≡ c - 1 - v.base + (length es - (c - 1 - prev))
put_size v prev c es high =
    length-append (take (c - 1 - v.base) v.entries) (drop (c - 1 - prev) es)
    ∙ ap (λ (n : ℕ). n + length (drop (c - 1 - prev) es)) (length-take-le (c - 1 - v.base) v.entries (omega arith))
    ∙ ap (λ (n : ℕ). c - 1 - v.base + n) (length-drop (c - 1 - prev) es)

-- the entries from there on
put_item : (v : LogValue) (prev c k : ℕ) (es : List Entry) → v.base ≤ prev → prev + 1 ≤ c → c ≤ last v + 1 → c ≤ prev + 1 + k → slice_get (put v prev es c).entries (prev - v.base + k) ≡ slice_get es k
put_item v prev c k es above low high from =
    let n : ℕ = c - 1 - v.base in
    let size : length (take n v.entries) ≡ n = length-take-le n v.entries (omega arith) in
    let place : prev - v.base + k ≡ n + (prev + 1 + k - c) = omega arith in
    let item : c - 1 - prev + (prev + 1 + k - c) ≡ k = omega arith in
    ap (λ (m : ℕ). slice_get (put v prev es c).entries m) place
    ∙ slice_get_back (take n v.entries) (drop (c - 1 - prev) es) n (prev + 1 + k - c) size
    ∙ slice_get_drop es (c - 1 - prev) (prev + 1 + k - c) ∙ ap (λ (m : ℕ). slice_get es m) item

pub put_entry : (v : LogValue) (prev c k : ℕ) (es : List Entry) (x : Entry) → v.base ≤ prev → prev + 1 ≤ c → c ≤ last v + 1 → c ≤ prev + 1 + k → slice_get es k ≡ Some x → entry_at (put v prev es c) (prev + 1 + k) ≡ Ok x
put_entry v prev c k es x above low high from at =
    let index : prev + 1 + k ≡ v.base + 1 + (prev - v.base + k) = omega arith in
    ap (entry_at (put v prev es c)) index ∙ entry_past (put v prev es c) (prev - v.base + k)
    ∙ ap (λ (o : Option Entry). found o) (put_item v prev c k es above low high from ∙ at)

pub put_term : (v : LogValue) (prev c k : ℕ) (es : List Entry) (x : Entry) → v.base ≤ prev → prev + 1 ≤ c → c ≤ last v + 1 → c ≤ prev + 1 + k → slice_get es k ≡ Some x → term_at (put v prev es c) (prev + 1 + k) ≡ Ok x.term
put_term v prev c k es x above low high from at =
    let index : prev + 1 + k ≡ v.base + 1 + (prev - v.base + k) = omega arith in
    ap (term_at (put v prev es c)) index ∙ term_past (put v prev es c) (prev - v.base + k)
    ∙ ap (λ (o : Option Entry). term_of o) (put_item v prev c k es above low high from ∙ at)

-- at the first index that is new the log has another term afterwards
pub first_differs : (v : LogValue) (prev c : ℕ) (es : List Entry) → v.base ≤ prev → prev + 1 ≤ c → c ≤ last v + 1 → first_new v (prev + 1) es ≡ Some c → term_at v c ≡ term_at (put v prev es c) c → ⊥
first_differs v prev c es above low high e same =
    let found = new_finds v es (prev + 1) c e in
    let placed : term_at (put v prev es c) c ≡ Ok found.entry.term =
    ap (term_at (put v prev es c)) found.at ∙ put_term v prev c found.place es found.entry above low high (omega (arith, found.at)) found.is_entry in
    let held : term_at v (prev + 1 + found.place) ≡ Ok found.entry.term = sym (ap (term_at v) found.at) ∙ same ∙ placed in
    let never : false ≡ true = sym (ap not (is_term_from (term_at v (prev + 1 + found.place)) found.entry.term held)) ∙ found.here in
    false≢true never

-- ---- an append, case by case

pub appended_below : (v : LogValue) (prev term commit : ℕ) (es : List Entry) → prev < commit → appended v prev term es commit ≡ v
appended_below v prev term commit es h = cond-true (ltb prev commit) v _ (lt-ltb prev commit h)

pub appended_refused : (v : LogValue) (prev term commit : ℕ) (es : List Entry) → is_term (term_at v prev) term ≡ false → appended v prev term es commit ≡ v
appended_refused v prev term commit es fails =
    elim (cases_lt prev commit) as (λ _. appended v prev term es commit ≡ v) [
      | inl under ↦ appended_below v prev term commit es under
      | inr over ↦ cond-false (ltb prev commit) v _ (le-ltb prev commit over) ∙ cond-false (is_term (term_at v prev) term) _ v fails
    ]

pub appended_matched : (v : LogValue) (prev term commit : ℕ) (es : List Entry) → commit ≤ prev → is_term (term_at v prev) term ≡ true → appended v prev term es commit ≡ replaced v prev es (first_new v (prev + 1) es)
appended_matched v prev term commit es over holds =
    cond-false (ltb prev commit) v _ (le-ltb prev commit over) ∙ cond-true (is_term (term_at v prev) term) _ v holds

pub appended_new : (v : LogValue) (prev term commit c : ℕ) (es : List Entry) → commit ≤ prev → term_at v prev ≡ Ok term → first_new v (prev + 1) es ≡ Some c → appended v prev term es commit ≡ put v prev es c
appended_new v prev term commit c es over at new =
    appended_matched v prev term commit es over (is_term_from (term_at v prev) term at) ∙ ap (λ (o : Option ℕ). replaced v prev es o) new

pub by_option : (o : Option ℕ) (P : Option ℕ → Type 0) → (o ≡ None → P None) → ((c : ℕ) → o ≡ Some c → P (Some c)) → P o
by_option None P none some = none refl
by_option (Some c) P none some = some c refl

-- what holds of a log, and of it with entries put in place, holds after an append
pub by_append : (v : LogValue) (prev term commit : ℕ) (es : List Entry) (P : LogValue → Type 0) → P v → ((c : ℕ) → commit ≤ prev → is_term (term_at v prev) term ≡ true → first_new v (prev + 1) es ≡ Some c → P (put v prev es c)) → P (appended v prev term es commit)
by_append v prev term commit es P stays puts =
    elim (cases_lt prev commit) as (λ _. P (appended v prev term es commit)) [
      | inl under ↦ rw (appended_below v prev term commit es under) stays
      | inr over ↦
          elim (cases_Bool (is_term (term_at v prev) term)) as (λ _. P (appended v prev term es commit)) [
            | inr fails ↦ rw (appended_refused v prev term commit es fails) stays
            | inl holds ↦ rw (appended_matched v prev term commit es over holds) (by_option (first_new v (prev + 1) es) (λ o. P (replaced v prev es o)) (λ _. stays) (λ c e. puts c over holds e))
          ]
    ]

-- ---- the laws

-- where entries are put in place
pub in_place : (v : LogValue) (prev term c : ℕ) (es : List Entry) → is_term (term_at v prev) term ≡ true → first_new v (prev + 1) es ≡ Some c → (v.base ≤ prev) × (prev + 1 ≤ c) × (c ≤ last v + 1) × (c < prev + 1 + length es)
in_place v prev term c es holds e =
    let prev_in : (v.base ≤ prev) × (prev ≤ last v) = held_in v prev term (is_term_is (term_at v prev) term holds) in
    let within : (prev + 1 ≤ c) × (c < prev + 1 + length es) = new_within v es (prev + 1) c e in
    (prev_in.0, within.0, new_after_last v es (prev + 1) c (omega arith) e, within.1)

-- what is at or below commit stays
pub committed-term : (v : LogValue) (prev term commit i : ℕ) (es : List Entry) → i ≤ commit → term_at (appended v prev term es commit) i ≡ term_at v i
committed-term v prev term commit i es low =
    by_append v prev term commit es (λ w. term_at w i ≡ term_at v i) refl
    (λ c over holds e. (let there = in_place v prev term c es holds e in put_term_below v prev c i es (omega (arith, there.1)) there.2))

pub committed-entry : (v : LogValue) (prev term commit i : ℕ) (es : List Entry) → i ≤ commit → entry_at (appended v prev term es commit) i ≡ entry_at v i
committed-entry v prev term commit i es low =
    by_append v prev term commit es (λ w. entry_at w i ≡ entry_at v i) refl
    (λ c over holds e. (let there = in_place v prev term c es holds e in put_entry_below v prev c i es (omega (arith, there.1)) there.2))

-- what is before the first that is new stays
pub before-new : (v : LogValue) (prev term commit c i : ℕ) (es : List Entry) → first_new v (prev + 1) es ≡ Some c → i < c → entry_at (appended v prev term es commit) i ≡ entry_at v i
before-new v prev term commit c i es new low =
    by_append v prev term commit es (λ w. entry_at w i ≡ entry_at v i) refl
    (λ d over holds e. (let both : Some c ≡ Some d = sym new ∙ e in
    let same : c ≡ d = cc in
    let there = in_place v prev term d es holds e in put_entry_below v prev d i es (omega (arith, same)) there.2))

pub none-new : (v : LogValue) (prev term commit : ℕ) (es : List Entry) → first_new v (prev + 1) es ≡ None → appended v prev term es commit ≡ v
none-new v prev term commit es none =
    by_append v prev term commit es (λ w. w ≡ v) refl (λ c over holds e. (let never : Some c ≡ None = sym e ∙ none in cc))

-- each place has an entry of the stated term
pub matched-term : (v : LogValue) (prev term commit k : ℕ) (es : List Entry) (x : Entry) → commit ≤ prev → term_at v prev ≡ Ok term → slice_get es k ≡ Some x → term_at (appended v prev term es commit) (prev + 1 + k) ≡ Ok x.term
matched-term v prev term commit k es x over at item =
    let holds = is_term_from (term_at v prev) term at in
    let P : LogValue → Type 0 = λ w. term_at w (prev + 1 + k) ≡ Ok x.term in
    rw (appended_matched v prev term commit es over holds)
    (by_option (first_new v (prev + 1) es) (λ o. P (replaced v prev es o))
    (λ none. held_all v es (prev + 1) k x none item)
    (λ c e. (let there = in_place v prev term c es holds e in
    elim (cases_lt (prev + 1 + k) c) as (λ _. P (put v prev es c)) [
      | inl low ↦ put_term_below v prev c (prev + 1 + k) es low there.2 ∙ held_before v es (prev + 1) c k x e low item
      | inr high ↦ put_term v prev c k es x there.0 there.1 there.2 high item
    ])))

-- those that are added are there whole
pub added-entry : (v : LogValue) (prev term commit c k : ℕ) (es : List Entry) (x : Entry) → commit ≤ prev → term_at v prev ≡ Ok term → first_new v (prev + 1) es ≡ Some c → c ≤ prev + 1 + k → slice_get es k ≡ Some x → entry_at (appended v prev term es commit) (prev + 1 + k) ≡ Ok x
added-entry v prev term commit c k es x over at new high item =
    let holds = is_term_from (term_at v prev) term at in
    let there = in_place v prev term c es holds new in
    let P : LogValue → Type 0 = λ w. entry_at w (prev + 1 + k) ≡ Ok x in
    rw (appended_matched v prev term commit es over holds, new) (put_entry v prev c k es x there.0 there.1 there.2 high item)

-- the entry to append after is still there
prev_stays : (v : LogValue) (prev term commit : ℕ) (es : List Entry) → term_at (appended v prev term es commit) prev ≡ term_at v prev
prev_stays v prev term commit es =
    by_append v prev term commit es (λ w. term_at w prev ≡ term_at v prev) refl
    (λ c over holds e. (let there = in_place v prev term c es holds e in put_term_below v prev c prev es (omega (arith, there.1)) there.2))

-- once more, it changes nothing
pub again : (v : LogValue) (prev term commit : ℕ) (es : List Entry) → appended (appended v prev term es commit) prev term es commit ≡ appended v prev term es commit
again v prev term commit es =
    let w = appended v prev term es commit in
    elim (cases_lt prev commit) as (λ _. appended w prev term es commit ≡ w) [
      | inl under ↦ appended_below w prev term commit es under
      | inr over ↦
          elim (cases_Bool (is_term (term_at v prev) term)) as (λ _. appended w prev term es commit ≡ w) [
            | inl holds ↦
                none-new w prev term commit es
                (none_new w es (prev + 1) (λ k x item. matched-term v prev term commit k es x over (is_term_is (term_at v prev) term holds) item))
            | inr fails ↦
                appended_refused w prev term commit es (ap (λ (r : Result ℕ LogFault). is_term r term) (prev_stays v prev term commit es) ∙ fails)
          ]
    ]

-- a log stays one
pub appended-is_log : (v : LogValue) (prev term commit : ℕ) (es : List Entry) → IsLog v → prev + length es ≤ MAX_INDEX → IsLog (appended v prev term es commit)
appended-is_log v prev term commit es is fits =
    by_append v prev term commit es (λ w. IsLog w) is
    (λ c over holds e. (let there = in_place v prev term c es holds e in
    let size = put_size v prev c es there.2 in
    record {
      above_base = omega (arith, is.above_base, there.0, there.1);
      within = omega (arith, there.0, there.1, there.3);
      fits = omega (arith, there.0, there.1, there.3);
    }))
