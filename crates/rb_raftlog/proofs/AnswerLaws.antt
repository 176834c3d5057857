-- Laws of what an append is answered.
use Rattle.std.proofs.Common.{◌≡◌, ℕ, ◌+◌, ◌<◌, ◌≤◌, Bool, true, false, not, ◌&&◌, List, [], ◌∷◌, length, Option, Some, None, Result, Ok, Err, refl, ap, sym, ◌∙◌, leb, ltb, inl, inr, ◌↔◌}
use Rattle.std.proofs.lemmas.Bool.{lt-ltb, le-ltb, le-leb, leb-true, ltb-true, eq-eqb, ne_eqb, cond-true, cond-false, cases_Bool, cases_lt, and_parts, and_from, false≢true}
use Rattle.std.specs.List.{slice_get}
use Rattle.rb_raftlog.specs.declared.entry.Entry.{Entry}
use Rattle.rb_raftlog.specs.declared.raft_log.LogFault.{LogFault}
use Rattle.rb_raftlog.specs.declared.raft_log.Appended.TheVariants.{Matched, Refused, BelowCommit}
use Rattle.rb_raftlog.specs.Log.{LogValue, last, last_term, term_at, is_term, is_other_term, is_conflict, conflict, answer, answer_below, appended, hint, is_up_to_date}
use Rattle.rb_raftlog.specs.Laws.{IsConflicting, IsFirstConflict, IsAsNew}
use Rattle.rb_raftlog.proofs.TermLaws.{is_term_is, is_term_from}
use Rattle.rb_raftlog.proofs.AppendLaws.{appended_below, appended_refused}
use Rattle.rb_raftlog.proofs.SearchLaws.{first_that, finds, finds_none}
use Rattle.rb_raftlog.proofs.VoteLaws.{newer_is, newer_from}

-- ---- newer

pub as_new : (v : LogValue) (i term : ℕ) → (is_up_to_date v i term ≡ true) ↔ IsAsNew v i term
as_new v i term = (newer_is (last_term v) (last v) term i, newer_from (last_term v) (last v) term i)

-- ---- conflicts

other_is : (r : Result ℕ LogFault) (t : ℕ) → is_other_term r t ≡ true → (held : ℕ) × (r ≡ Ok held) × (held ≡ t → ⊥)
other_is (Ok held) t h = (held, refl, λ same. false≢true (sym (ap not (eq-eqb held t same)) ∙ h))
other_is (Err f) t h = absurd (false≢true h)

other_from : (r : Result ℕ LogFault) (t held : ℕ) → r ≡ Ok held → (held ≡ t → ⊥) → is_other_term r t ≡ true
other_from r t held e differs = ap (λ (x : Result ℕ LogFault). is_other_term x t) e ∙ ap not (ne_eqb held t differs)

-- the test is what the law says
conflicts_is : (v : LogValue) (prev k commit : ℕ) (es : List Entry) (e : Entry) → slice_get es k ≡ Some e → is_conflict v (prev + 1 + k) e.term commit ≡ true → IsConflicting v prev es commit k
conflicts_is v prev k commit es e at h =
    let i : ℕ = prev + 1 + k in
    let outer = and_parts (ltb v.base i && leb i commit) (is_other_term (term_at v i) e.term) h in
    let inner = and_parts (ltb v.base i) (leb i commit) outer.0 in
    let other = other_is (term_at v i) e.term outer.1 in
    record {
      sent = e;
      is_sent = at;
      held = other.0;
      is_held = other.1;
      differs = other.2;
      above_base = ltb-true v.base i inner.0;
      committed = leb-true i commit inner.1;
    }

conflicts_from : (v : LogValue) (prev k commit : ℕ) (es : List Entry) (e : Entry) → slice_get es k ≡ Some e → IsConflicting v prev es commit k → is_conflict v (prev + 1 + k) e.term commit ≡ true
conflicts_from v prev k commit es e at c =
    let i : ℕ = prev + 1 + k in
    let both : Some c.sent ≡ Some e = sym c.is_sent ∙ at in
    let same : c.sent ≡ e = cc in
    and_from (ltb v.base i && leb i commit) (is_other_term (term_at v i) e.term)
    (and_from (ltb v.base i) (leb i commit) (lt-ltb v.base i c.above_base) (le-leb i commit c.committed))
    (other_from (term_at v i) e.term c.held c.is_held (λ x. c.differs (x ∙ sym (ap (λ (y : Entry). y.term) same))))

-- whether an entry can't go to an index
abbrev conflicts : LogValue → ℕ → ℕ → Entry → Bool
conflicts v commit i e = is_conflict v i e.term commit

conflict_is : (v : LogValue) (es : List Entry) (i commit : ℕ) → conflict v i es commit ≡ first_that (conflicts v commit) i es
conflict_is v [] i commit = refl
conflict_is v (e ∷ es) i commit = rw (conflict_is v es (i + 1) commit) refl

-- ---- answers

answered_below : (v : LogValue) (prev term commit : ℕ) (es : List Entry) → prev < commit → answer v prev term es commit ≡ answer_below (conflict v (prev + 1) es commit) commit
answered_below v prev term commit es under = cond-true (ltb prev commit) _ _ (lt-ltb prev commit under)

answered_matched : (v : LogValue) (prev term commit : ℕ) (es : List Entry) → commit ≤ prev → is_term (term_at v prev) term ≡ true → answer v prev term es commit ≡ Matched (prev + length es)
answered_matched v prev term commit es over holds =
    cond-false (ltb prev commit) _ _ (le-ltb prev commit over) ∙ cond-true (is_term (term_at v prev) term) _ _ holds

answered_refused : (v : LogValue) (prev term commit : ℕ) (es : List Entry) → commit ≤ prev → is_term (term_at v prev) term ≡ false → answer v prev term es commit ≡ Refused (hint v prev term)
answered_refused v prev term commit es over fails =
    cond-false (ltb prev commit) _ _ (le-ltb prev commit over) ∙ cond-false (is_term (term_at v prev) term) _ _ fails

matched_is : (a b : ℕ) → Matched a ≡ Matched b → a ≡ b
matched_is a b e = cc

below_is : (a b : ℕ) → BelowCommit a ≡ BelowCommit b → a ≡ b
below_is a b e = cc

pub matched-says : (v : LogValue) (prev term commit i : ℕ) (es : List Entry) → commit ≤ prev → answer v prev term es commit ≡ Matched i → (term_at v prev ≡ Ok term) × (i ≡ prev + length es)
matched-says v prev term commit i es over h =
    elim (cases_Bool (is_term (term_at v prev) term)) as (λ _. (term_at v prev ≡ Ok term) × (i ≡ prev + length es)) [
      | inl holds ↦ (is_term_is (term_at v prev) term holds, sym (matched_is (prev + length es) i (sym (answered_matched v prev term commit es over holds) ∙ h)))
      | inr fails ↦ let no : Refused (hint v prev term) ≡ Matched i = sym (answered_refused v prev term commit es over fails) ∙ h in cc
    ]

below_matched : (o : Option ℕ) (commit i : ℕ) → answer_below o commit ≡ Matched i → (o ≡ None) × (i ≡ commit)
below_matched None commit i h = (refl, sym (matched_is commit i h))
below_matched (Some c) commit i h = cc

below_conflict : (o : Option ℕ) (commit i : ℕ) → answer_below o commit ≡ BelowCommit i → o ≡ Some i
below_conflict None commit i h = cc
below_conflict (Some c) commit i h = ap (λ (n : ℕ). Some n) (below_is c i h)

below_refused : (o : Option ℕ) (commit i : ℕ) → answer_below o commit ≡ Refused i → ⊥
below_refused None commit i h = cc
below_refused (Some c) commit i h = cc

pub committed-says : (v : LogValue) (prev term commit i : ℕ) (es : List Entry) → prev < commit → answer v prev term es commit ≡ Matched i → (i ≡ commit) × ((k : ℕ) → IsConflicting v prev es commit k → ⊥)
committed-says v prev term commit i es under h =
    let is = below_matched (conflict v (prev + 1) es commit) commit i (sym (answered_below v prev term commit es under) ∙ h) in (
      is.1,
      λ k c.
          (let none = finds_none (conflicts v commit) es (prev + 1) k c.sent (sym (conflict_is v es (prev + 1) commit) ∙ is.0) c.is_sent in
          false≢true (sym none ∙ conflicts_from v prev k commit es c.sent c.is_sent c)),
    )

pub refused-says : (v : LogValue) (prev term commit i : ℕ) (es : List Entry) → answer v prev term es commit ≡ Refused i → (term_at v prev ≡ Ok term → ⊥) × (appended v prev term es commit ≡ v)
refused-says v prev term commit i es h =
    elim (cases_lt prev commit) as (λ _. (term_at v prev ≡ Ok term → ⊥) × (appended v prev term es commit ≡ v)) [
      | inl under ↦ absurd (below_refused (conflict v (prev + 1) es commit) commit i (sym (answered_below v prev term commit es under) ∙ h))
      | inr over ↦
          elim (cases_Bool (is_term (term_at v prev) term)) as (λ _. (term_at v prev ≡ Ok term → ⊥) × (appended v prev term es commit ≡ v)) [
            | inl holds ↦ let no : Matched (prev + length es) ≡ Refused i = sym (answered_matched v prev term commit es over holds) ∙ h in cc
            | inr fails ↦ (λ is. false≢true (sym fails ∙ is_term_from (term_at v prev) term is), appended_refused v prev term commit es fails)
          ]
    ]

pub below-says : (v : LogValue) (prev term commit i : ℕ) (es : List Entry) → answer v prev term es commit ≡ BelowCommit i → IsFirstConflict v prev es commit i × (appended v prev term es commit ≡ v)
below-says v prev term commit i es h =
    elim (cases_lt prev commit) as (λ _. IsFirstConflict v prev es commit i × (appended v prev term es commit ≡ v)) [
      | inl under ↦
          let found = below_conflict (conflict v (prev + 1) es commit) commit i (sym (answered_below v prev term commit es under) ∙ h) in
          let is = finds (conflicts v commit) es (prev + 1) i (sym (conflict_is v es (prev + 1) commit) ∙ found) in (
            record {
              place = is.place;
              at = is.at;
              here = conflicts_is v prev is.place commit es is.entry is.is_entry is.here;
              first = λ k low c. false≢true (sym (is.none k c.sent low c.is_sent) ∙ conflicts_from v prev k commit es c.sent c.is_sent c);
            },
            appended_below v prev term commit es under,
          )
      | inr over ↦
          elim (cases_Bool (is_term (term_at v prev) term)) as (λ _. IsFirstConflict v prev es commit i × (appended v prev term es commit ≡ v)) [
            | inl holds ↦ let no : Matched (prev + length es) ≡ BelowCommit i = sym (answered_matched v prev term commit es over holds) ∙ h in cc
            | inr fails ↦ let no : Refused (hint v prev term) ≡ BelowCommit i = sym (answered_refused v prev term commit es over fails) ∙ h in cc
          ]
    ]
