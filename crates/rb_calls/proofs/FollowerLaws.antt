-- What an append leaves: the entries that it names are there after it
use Rattle.std.proofs.Common.{[], ℕ, ◌≤◌, max, Option, Some, None, arith, ◌≡◌, List, ◌+◌, length, ◌∷◌, inl, sym, ◌∙◌, inr, true, nat_lt, refl}
use Rattle.std.proofs.lemmas.Bool.{cases_Bool, cond-true, cond-false, ltb-false}
use Rattle.rb_raftlog.proofs.AppendLaws.{appended_matched}
use Rattle.rb_raftlog.proofs.TermLaws.{held_in, is_term_is}
use Rattle.rb_raftlog.specs.Log.{LogValue, last, answer_below, first_new, is_term, term_at, replaced, answer, appended, conflict}
use Rattle.rb_raftlog.specs.declared.entry.Entry.{Entry}
use Rattle.rb_raftlog.specs.declared.raft_log.Appended.{Appended}
use Rattle.rb_raftlog.specs.declared.raft_log.Appended.TheVariants.{Matched, Refused, BelowCommit}
use Rattle.rb_tracker.proofs.SetLaws.{if_both}
use Rattle.rb_calls.proofs.Turns.{append_size}

-- the entries that an append names are there after it
unfoldable pub Reaches : Appended → LogValue → ℕ → Type 0
Reaches (Matched i) w commit = i ≤ max commit (last w)
Reaches (Refused i) w commit = Unit {0}
Reaches (BelowCommit i) w commit = Unit {0}

below_reaches : (o : Option ℕ) (w : LogValue) (commit : ℕ) → Reaches (answer_below o commit) w commit
unfolding Reaches
below_reaches (Some i) w commit = tt
below_reaches None w commit = omega arith

some_none : (i : ℕ) → Some i ≡ None → ⊥
some_none i e = cc

held_through : (v : LogValue) (es : List Entry) (i : ℕ) → first_new v i es ≡ None → i ≤ last v + 1 → i + length es ≤ last v + 1
held_through v [] i e low = omega (arith, low)
held_through v (x ∷ es) i e low =
    elim (cases_Bool (is_term (term_at v i) x.term)) as (λ _. i + length (x ∷ es) ≤ last v + 1) [
      | inl holds ↦
          let here : (v.base ≤ i) × (i ≤ last v) = held_in v i x.term (is_term_is (term_at v i) x.term holds) in
          let rest : i + 1 + length es ≤ last v + 1 = held_through v es (i + 1) (sym (cond-true (is_term (term_at v i) x.term) (first_new v (i + 1) es) (Some i) holds) ∙ e) (omega (arith, here.1)) in
          omega (arith, rest)
      | inr fails ↦ absurd (some_none i (sym (cond-false (is_term (term_at v i) x.term) (first_new v (i + 1) es) (Some i) fails) ∙ e))
    ]

replaced_reaches : (v : LogValue) (prev term : ℕ) (es : List Entry) (o : Option ℕ) → first_new v (prev + 1) es ≡ o → is_term (term_at v prev) term ≡ true → prev + length es ≤ last (replaced v prev es o)
replaced_reaches v prev term es None e holds =
    let there : (v.base ≤ prev) × (prev ≤ last v) = held_in v prev term (is_term_is (term_at v prev) term holds) in
    let all : prev + 1 + length es ≤ last v + 1 = held_through v es (prev + 1) e (omega (arith, there.1)) in
    omega (arith, all)
replaced_reaches v prev term es (Some c) e holds = omega (arith, (append_size v prev term c es holds e).1)

pub answer_reaches : (v : LogValue) (prev term : ℕ) (es : List Entry) (commit : ℕ) → Reaches (answer v prev term es commit) (appended v prev term es commit) commit
unfolding Reaches
answer_reaches v prev term es commit =
    if_both (λ (a : Appended). Reaches a (appended v prev term es commit) commit) (nat_lt prev commit) _ _
    (λ _. below_reaches (conflict v (prev + 1) es commit) (appended v prev term es commit) commit)
    (λ over. if_both (λ (a : Appended). Reaches a (appended v prev term es commit) commit) (is_term (term_at v prev) term) _ _
    (λ holds.
    (let is = appended_matched v prev term commit es (ltb-false prev commit over) holds in
    let reach : prev + length es ≤ last (appended v prev term es commit) = rw is (replaced_reaches v prev term es (first_new v (prev + 1) es) refl holds) in
    omega (arith, reach)))
    (λ _. tt))
