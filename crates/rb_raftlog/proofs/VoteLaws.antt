-- Laws of hints, votes, compacting and what stays durable.
use Rattle.std.proofs.Common.{◌≡◌, ℕ, zero, suc, ◌+◌, ◌-◌, ◌<◌, ◌≤◌, Bool, true, false, ◌||◌, ◌&&◌, [], ◌∷◌, ◌++◌, length, drop, min, Option, Result, Ok, Err, refl, ap, sym, ◌∙◌, arith, ltb, leb, eqb, ◌⊎◌, inl, inr, length-append, length-drop}
use Rattle.std.proofs.lemmas.Bool.{le-ltb, cond-true, cond-false, cases_Bool, cases_lt, false≢true}
use Rattle.std.proofs.lemmas.Bool.Decides.{nat_tests}
use Rattle.rb_raftlog.specs.declared.entry.Entry.{Entry}
use Rattle.rb_raftlog.specs.declared.limits.TheConstants.{MAX_INDEX}
use Rattle.rb_raftlog.specs.declared.raft_log.LogFault.{LogFault}
use Rattle.rb_raftlog.specs.Log.{LogValue, IsLog, last, last_term, fresh, own, made_durable, compacted, term_at, term_of, entry_at, found, is_term_up_to, hint, hint_from}
use Rattle.rb_raftlog.specs.Laws.{IsHint, log_is_up_to_date}
use Rattle.rb_raftlog.proofs.TermLaws.{term_base, term_past, entry_past, by_index, slice_get_drop, held_in}

-- ---- up to date: by the last term, and then by the last index

abbrev pub newer : ℕ → ℕ → ℕ → ℕ → Bool
newer t i u j = ltb t u || (eqb u t && leb i j)

pub newer_is : (t i u j : ℕ) → newer t i u j ≡ true → (t < u) ⊎ ((u ≡ t) × (i ≤ j))
newer_is t i u j h = grind (arith, nat_tests)

pub newer_from : (t i u j : ℕ) → (t < u) ⊎ ((u ≡ t) × (i ≤ j)) → newer t i u j ≡ true
newer_from t i u j h = grind (arith, nat_tests)

newer_total : (t i u j : ℕ) → (newer t i u j ≡ true) ⊎ (newer u j t i ≡ true)
newer_total t i u j = grind (arith, nat_tests)

newer_on : (t i u j w k : ℕ) → newer t i u j ≡ true → newer u j w k ≡ true → newer t i w k ≡ true
newer_on t i u j w k g h = grind (arith, nat_tests)

pub up_to_date-total : (v w : LogValue) → (log_is_up_to_date v w ≡ true) ⊎ (log_is_up_to_date w v ≡ true)
up_to_date-total v w = newer_total (last_term v) (last v) (last_term w) (last w)

pub up_to_date-on : (u v w : LogValue) → log_is_up_to_date u v ≡ true → log_is_up_to_date v w ≡ true → log_is_up_to_date u w ≡ true
up_to_date-on u v w g h = newer_on (last_term u) (last u) (last_term v) (last v) (last_term w) (last w) g h

-- ---- the hint

-- one index more
held_up : (v : LogValue) (i j t h : ℕ) → i ≤ j → (h ≡ 0) ⊎ ((v.base ≤ h) × (h ≤ i) × (is_term_up_to (term_at v h) t ≡ true)) → (h ≡ 0) ⊎ ((v.base ≤ h) × (h ≤ j) × (is_term_up_to (term_at v h) t ≡ true))
held_up v i j t h low held = grind arith

up_to_in : (v : LogValue) (r : Result ℕ LogFault) (j t : ℕ) → term_at v j ≡ r → is_term_up_to r t ≡ true → j ≤ last v
up_to_in v (Ok held) j t e h = (held_in v j held e).1
up_to_in v (Err f) j t e h = absurd (false≢true h)

hint_from_is : (v : LogValue) (n t : ℕ) → IsHint v (v.base + n) t (hint_from v n t)
hint_from_is v zero t =
    elim (cases_Bool (leb v.base_term t)) as (λ _. IsHint v (v.base + zero) t (hint_from v zero t)) [
      | inl low ↦ rw (cond-true (leb v.base_term t) v.base 0 low) (record {
        greatest = λ j above within up. omega arith;
        held = inr (omega arith, omega arith, ap (λ (r : Result ℕ LogFault). is_term_up_to r t) (term_base v) ∙ low);
      })
      | inr high ↦ rw (cond-false (leb v.base_term t) v.base 0 high) (record {
        greatest = λ j above within up.
            (let at : j ≡ v.base = omega arith in
            let never : false ≡ true = sym high ∙ sym (ap (λ (r : Result ℕ LogFault). is_term_up_to r t) (ap (term_at v) at ∙ term_base v)) ∙ up in
            absurd (false≢true never));
        held = inl refl;
      })
    ]
hint_from_is v (suc n) t =
    let at : ℕ = v.base + n + 1 in
    let before : IsHint v (v.base + n) t (hint_from v n t) = hint_from_is v n t in
    elim (cases_Bool (is_term_up_to (term_at v at) t)) as (λ _. IsHint v (v.base + suc n) t (hint_from v (suc n) t)) [
      | inl low ↦ rw (cond-true (is_term_up_to (term_at v at) t) at (hint_from v n t) low) (record {
        greatest = λ j above within up. omega arith;
        held = inr (omega arith, omega arith, low);
      })
      | inr high ↦ rw (cond-false (is_term_up_to (term_at v at) t) at (hint_from v n t) high) (record {
        greatest = λ j above within up.
            (elim (cases_lt j at) as (λ _. j ≤ hint_from v n t) [
              | inl under ↦ before.greatest j above (omega arith) up
              | inr over ↦
                  let same : j ≡ at = omega arith in
                  absurd (false≢true (sym high ∙ sym (ap (λ (m : ℕ). is_term_up_to (term_at v m) t) same) ∙ up))
            ]);
        held = held_up v (v.base + n) (v.base + suc n) t (hint_from v n t) (omega arith) before.held;
      })
    ]

pub hint-is : (v : LogValue) (i t : ℕ) → v.base ≤ i → IsHint v i t (hint v i t)
hint-is v i t above =
    let top : ℕ = min i (last v) in
    let is : IsHint v (v.base + (top - v.base)) t (hint_from v (top - v.base) t) = hint_from_is v (top - v.base) t in
    rw (cond-false (ltb i v.base) 0 (hint_from v (top - v.base) t) (le-ltb i v.base above)) (record {
      greatest = λ j low within up. is.greatest j low (omega (arith, up_to_in v (term_at v j) j t refl up)) up;
      held = held_up v (v.base + (top - v.base)) i t (hint_from v (top - v.base) t) (omega arith) is.held;
    })

-- ---- compacting

pub compacted-term : (v : LogValue) (i term j : ℕ) → v.base < i → term_at v i ≡ Ok term → i ≤ j → term_at (compacted v i (Ok term)) j ≡ term_at v j
compacted-term v i term j low at above =
    let w = compacted v i (Ok term) in
    let P : ℕ → Type 0 = λ m. i ≤ m → term_at w m ≡ term_at v m in
    by_index i P
    (λ m under over. absurd (omega (arith, under, over)))
    (λ over. term_base w ∙ sym at)
    (λ k over. (let index : v.base + 1 + (i - v.base + k) ≡ i + 1 + k = omega arith in
    term_past w k ∙ ap (λ (o : Option Entry). term_of o) (slice_get_drop v.entries (i - v.base) k)
    ∙ sym (term_past v (i - v.base + k)) ∙ ap (term_at v) index))
    j above

pub compacted-entry : (v : LogValue) (i term j : ℕ) → v.base < i → i < j → entry_at (compacted v i (Ok term)) j ≡ entry_at v j
compacted-entry v i term j low above =
    let w = compacted v i (Ok term) in
    let k : ℕ = j - i - 1 in
    let here : j ≡ i + 1 + k = omega arith in
    let there : j ≡ v.base + 1 + (i - v.base + k) = omega arith in
    ap (entry_at w) here ∙ entry_past w k ∙ ap (λ (o : Option Entry). found o) (slice_get_drop v.entries (i - v.base) k)
    ∙ sym (entry_past v (i - v.base + k)) ∙ sym (ap (entry_at v) there)

-- ---- durable stays between base and last

pub fresh-is_log : (index term : ℕ) → index ≤ MAX_INDEX → IsLog (fresh index term)
fresh-is_log index term fits = record { above_base = omega arith; within = omega arith; fits = omega arith }

pub own-is_log : (v : LogValue) (entry : Entry) → IsLog v → last v < MAX_INDEX → IsLog (own v entry)
own-is_log v entry is low =
    let size : length (v.entries ++ entry ∷ []) ≡ length v.entries + 1 = length-append v.entries (entry ∷ []) in
    record {
      above_base = is.above_base;
      within = omega (arith, is.within);
      fits = omega arith;
    }

pub made_durable-is_log : (v : LogValue) → IsLog v → IsLog (made_durable v)
made_durable-is_log v is = record { above_base = omega arith; within = omega arith; fits = is.fits }

pub compacted-is_log : (v : LogValue) (i term : ℕ) → IsLog v → v.base < i → i ≤ v.durable → IsLog (compacted v i (Ok term))
compacted-is_log v i term is low fits =
    let size : length (drop (i - v.base) v.entries) ≡ length v.entries - (i - v.base) = length-drop (i - v.base) v.entries in
    record {
      above_base = fits;
      within = omega (arith, is.within);
      fits = omega (arith, is.within, is.fits);
    }
