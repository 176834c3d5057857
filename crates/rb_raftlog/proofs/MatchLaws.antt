-- Log matching, of any two logs.
use Rattle.std.proofs.Common.{◌≡◌, ℕ, ◌+◌, ◌-◌, ◌<◌, ◌≤◌, List, [], ◌∷◌, length, Some, Result, Ok, ap, sym, ◌∙◌, arith, length-append, inl, inr}
use Rattle.std.proofs.lemmas.Bool.{cases_lt}
use Rattle.std.proofs.lemmas.Bool.Decides.{nat_tests}
use Rattle.std.proofs.lemmas.Option.{slice_get_cases}
use Rattle.std.specs.List.{slice_get}
use Rattle.rb_raftlog.specs.declared.entry.Entry.{Entry}
use Rattle.rb_raftlog.specs.declared.raft_log.LogFault.{LogFault}
use Rattle.rb_raftlog.specs.declared.snapshot.Snapshot.{Snapshot}
use Rattle.rb_raftlog.specs.Log.{LogValue, last, term_at, entry_at, first_new, appended, own, made_durable, compacted, restored}
use Rattle.rb_raftlog.specs.Laws.{AreMatching, AreOfLog}
use Rattle.rb_raftlog.proofs.TermLaws.{held_in, is_term_is}
use Rattle.rb_raftlog.proofs.AppendLaws.{put, put_size, put_term_below, put_entry_below, put_term, put_entry, held_before, in_place, by_append}
use Rattle.rb_raftlog.proofs.PlaceLaws.{own-last, own-held, own-term_held}
use Rattle.rb_raftlog.proofs.VoteLaws.{compacted-term, compacted-entry}

pub either_way : (u v : LogValue) → AreMatching u v → AreMatching v u
either_way u v m = record {
  terms = λ i j t at there low above over. sym (m.terms i j t there at low over above);
  entries = λ i j t at there low above over. sym (m.entries i j t there at low over above);
}

-- ---- an index that a log has

-- the entry at an index has the term there
pub entry_term : (w : LogValue) (i : ℕ) (e : Entry) → entry_at w i ≡ Ok e → (w.base < i) × (term_at w i ≡ Ok e.term)
entry_term w i e h = grind (arith, nat_tests)

-- ---- an append of what another log has

-- where the entries are put that stand in w behind prev, and u, v and w match
record Puts (u v w : LogValue) (prev term : ℕ) (es : List Entry) (c : ℕ) : Type 0 where
  u_v : AreMatching u v
  u_w : AreMatching u w
  v_w : AreMatching v w
  prev_v : term_at v prev ≡ Ok term
  prev_w : term_at w prev ≡ Ok term
  of_w : AreOfLog w prev es
  new : first_new v (prev + 1) es ≡ Some c
  above : v.base ≤ prev
  from : prev + 1 ≤ c
  high : c ≤ last v + 1

-- what stands at a place
at_place : (es : List Entry) (k : ℕ) → k < length es → (e : Entry) × (slice_get es k ≡ Some e)
at_place es k low =
    elim (slice_get_cases es k).1 as (λ _. (e : Entry) × (slice_get es k ≡ Some e)) [
      | inl there ↦ (there.0, there.2)
      | inr past ↦ absurd (omega (arith, low, past.0))
    ]

-- two logs read the same up to an index at which both have one term: `f` reads a log at an index, if that is not too low
abbrev Agree : {Y : Type 0} → (LogValue → ℕ → Result Y LogFault) → (ℕ → ℕ → Type 0) → LogValue → LogValue → Type 0
Agree f low v w = (i j t : ℕ) → term_at v i ≡ Ok t → term_at w i ≡ Ok t → j ≤ i → low v.base j → low w.base j → f v j ≡ f w j

module _ (u v w : LogValue) (prev term c : ℕ) (es : List Entry) (p : Puts u v w prev term es c) where
  -- the term, or the entry, at each place that is named
  sent_term : (k : ℕ) (e : Entry) → slice_get es k ≡ Some e → term_at (put v prev es c) (prev + 1 + k) ≡ Ok e.term
  sent_term k e at =
      elim (cases_lt (prev + 1 + k) c) as (λ _. term_at (put v prev es c) (prev + 1 + k) ≡ Ok e.term) [
        | inl low ↦ put_term_below v prev c (prev + 1 + k) es low p.high ∙ held_before v es (prev + 1) c k e p.new low at
        | inr high ↦ put_term v prev c k es e p.above p.from p.high high at
      ]

  sent_entry : (k : ℕ) (e : Entry) → slice_get es k ≡ Some e → entry_at (put v prev es c) (prev + 1 + k) ≡ Ok e
  sent_entry k e at =
      let of = entry_term w (prev + 1 + k) e (p.of_w k e at) in
      elim (cases_lt (prev + 1 + k) c) as (λ _. entry_at (put v prev es c) (prev + 1 + k) ≡ Ok e) [
        | inl low ↦
            put_entry_below v prev c (prev + 1 + k) es low p.high
            ∙ p.v_w.entries (prev + 1 + k) (prev + 1 + k) e.term (held_before v es (prev + 1) c k e p.new low at) of.1 (omega arith) (omega (arith, p.above)) of.0
            ∙ p.of_w k e at
        | inr high ↦ put_entry v prev c k es e p.above p.from p.high high at
      ]

  -- u has prev too, with its term, where u has an index behind it
  prev_held : (k : ℕ) (e : Entry) → slice_get es k ≡ Some e → term_at u (prev + 1 + k) ≡ Ok e.term → u.base ≤ prev → term_at u prev ≡ Ok term
  prev_held k e at h low =
      p.u_w.terms (prev + 1 + k) prev e.term h (entry_term w (prev + 1 + k) e (p.of_w k e at)).1 (omega arith) low (held_in w prev term p.prev_w).0 ∙ p.prev_w

  -- where u agrees with v and with w, it agrees with v with the entries put
  put_agrees : {Y : Type 0} (f : LogValue → ℕ → Result Y LogFault) (low : ℕ → ℕ → Type 0) → ((b j : ℕ) → low b j → b ≤ j) → ((b j : ℕ) → b < j → low b j)
      → Agree f low u v → Agree f low u w → ((j : ℕ) → j < c → f (put v prev es c) j ≡ f v j)
      → ((k : ℕ) (e : Entry) → slice_get es k ≡ Some e → f w (prev + 1 + k) ≡ f (put v prev es c) (prev + 1 + k))
      → c < prev + 1 + length es → Agree f low u (put v prev es c)
  put_agrees f low down up u_v u_w below sent within = λ i j t at there under in_u in_v.
      (elim (cases_lt i c) as (λ _. f u j ≡ f (put v prev es c) j) [
        | inl before ↦ u_v i j t at (sym (put_term_below v prev c i es before p.high) ∙ there) under in_u in_v ∙ sym (below j (omega (arith, under, before)))
        | inr over ↦
            let k : ℕ = i - prev - 1 in
            let index : i ≡ prev + 1 + k = omega (arith, p.from, over) in
            let size = put_size v prev c es p.high in
            let k_in : k < length es = omega (arith, (held_in (put v prev es c) i t there).1, size, p.from, p.high, p.above) in
            let e = at_place es k k_in in
            let of_w = (entry_term w (prev + 1 + k) e.0 (p.of_w k e.0 e.1)).1 in
            let of_u : term_at u (prev + 1 + k) ≡ Ok e.0.term = sym (ap (term_at u) index) ∙ at ∙ sym there ∙ ap (term_at (put v prev es c)) index ∙ sent_term k e.0 e.1 in
            elim (cases_lt prev j) as (λ _. f u j ≡ f (put v prev es c) j) [
              | inr before ↦
                  u_v prev j term (prev_held k e.0 e.1 of_u (omega (arith, down u.base j in_u, before))) p.prev_v before in_u in_v
                  ∙ sym (below j (omega (arith, before, p.from)))
              | inl behind ↦
                  let m : ℕ = j - prev - 1 in
                  let place : j ≡ prev + 1 + m = omega arith in
                  let x = at_place es m (omega (arith, under, k_in)) in
                  let x_in = (entry_term w (prev + 1 + m) x.0 (p.of_w m x.0 x.1)).0 in
                  u_w (prev + 1 + k) j e.0.term of_u of_w (omega (arith, under, index)) in_u (up w.base j (omega (arith, x_in, place)))
                  ∙ ap (f w) place ∙ sent m x.0 x.1 ∙ sym (ap (f (put v prev es c)) place)
            ]
      ])

  put-matches : c < prev + 1 + length es → AreMatching u (put v prev es c)
  put-matches within = record {
    terms = put_agrees term_at (λ b j. b ≤ j) (λ b j h. h) (λ b j h. omega (arith, h)) p.u_v.terms p.u_w.terms (λ j low. put_term_below v prev c j es low p.high)
        (λ k e at. (entry_term w (prev + 1 + k) e (p.of_w k e at)).1 ∙ sym (sent_term k e at)) within;
    entries = put_agrees entry_at (λ b j. b < j) (λ b j h. omega (arith, h)) (λ b j h. h) p.u_v.entries p.u_w.entries (λ j low. put_entry_below v prev c j es low p.high)
        (λ k e at. p.of_w k e at ∙ sym (sent_entry k e at)) within;
  }

pub appended-matches : (u v w : LogValue) (prev term commit : ℕ) (es : List Entry) → AreMatching u v → AreMatching u w → AreMatching v w → term_at w prev ≡ Ok term → AreOfLog w prev es → AreMatching u (appended v prev term es commit)
appended-matches u v w prev term commit es u_v u_w v_w prev_w of_w =
    by_append v prev term commit es (λ x. AreMatching u x) u_v
    (λ c over holds e. (let there = in_place v prev term c es holds e in
    put-matches u v w prev term c es (record {
      u_v = u_v;
      u_w = u_w;
      v_w = v_w;
      prev_v = is_term_is (term_at v prev) term holds;
      prev_w = prev_w;
      of_w = of_w;
      new = e;
      above = there.0;
      from = there.1;
      high = there.2;
    }) there.3))

-- ---- the other calls

own_size : (v : LogValue) (e : Entry) → last (own v e) ≡ last v + 1
own_size v e = omega (arith, length-append v.entries (e ∷ []))

pub own-matches : (u v : LogValue) (e : Entry) → AreMatching u v → (term_at u (last v + 1) ≡ Ok e.term → ⊥) → AreMatching u (own v e)
own-matches u v e m none =
    let never : (i t : ℕ) → last v < i → term_at u i ≡ Ok t → term_at (own v e) i ≡ Ok t → ⊥ =
    λ i t past at there.
    (let size : last (own v e) ≡ last v + 1 = own_size v e in
    let here : i ≡ last v + 1 = omega (arith, past, (held_in (own v e) i t there).1, size) in
    let is : term_at (own v e) (last v + 1) ≡ Ok e.term = (entry_term (own v e) (last v + 1) e (own-last v e)).1 in
    none (sym (ap (term_at u) here) ∙ at ∙ sym there ∙ ap (term_at (own v e)) here ∙ is)) in
    record {
      terms = λ i j t at there low in_u in_v.
          (elim (cases_lt (last v) i) as (λ _. term_at u j ≡ term_at (own v e) j) [
            | inl past ↦ absurd (never i t past at there)
            | inr held ↦ m.terms i j t at (sym (own-term_held v e i held) ∙ there) low in_u in_v ∙ sym (own-term_held v e j (omega (arith, low, held)))
          ]);
      entries = λ i j t at there low in_u in_v.
          (elim (cases_lt (last v) i) as (λ _. entry_at u j ≡ entry_at (own v e) j) [
            | inl past ↦ absurd (never i t past at there)
            | inr held ↦ m.entries i j t at (sym (own-term_held v e i held) ∙ there) low in_u in_v ∙ sym (own-held v e j (omega (arith, low, held)))
          ]);
    }

pub compacted-matches : (u v : LogValue) (i term : ℕ) → AreMatching u v → v.base < i → term_at v i ≡ Ok term → AreMatching u (compacted v i (Ok term))
compacted-matches u v b term m low is =
    let w = compacted v b (Ok term) in
    let back : (i t : ℕ) → term_at w i ≡ Ok t → term_at v i ≡ Ok t =
    λ i t there. (sym (compacted-term v b term i low is (held_in w i t there).0) ∙ there) in
    record {
      terms = λ i j t at there under in_u in_w.
          m.terms i j t at (back i t there) under in_u (omega (arith, low, in_w)) ∙ sym (compacted-term v b term j low is in_w);
      entries = λ i j t at there under in_u in_w.
          m.entries i j t at (back i t there) under in_u (omega (arith, low, in_w)) ∙ sym (compacted-entry v b term j low in_w);
    }

pub written-matches : (u v : LogValue) → AreMatching u v → AreMatching u (made_durable v)
written-matches u v m = record { terms = m.terms; entries = m.entries }

pub restored-matches : (u v : LogValue) (s : Snapshot) → AreMatching u (restored v s)
restored-matches u v s = record {
  terms = λ i j t at there low in_u in_v.
      (let here : i ≡ s.index = omega (arith, (held_in (restored v s) i t there).0, (held_in (restored v s) i t there).1) in
      let same : j ≡ i = omega (arith, low, in_v, here) in
      ap (term_at u) same ∙ at ∙ sym there ∙ sym (ap (term_at (restored v s)) same));
  entries = λ i j t at there low in_u in_v. absurd (omega (arith, low, in_v, (held_in (restored v s) i t there).1));
}
