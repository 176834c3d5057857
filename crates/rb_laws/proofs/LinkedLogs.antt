-- A log that is linked stays so, whatever is done to it
use Rattle.std.proofs.Common.{◌≡◌, ℕ, ◌+◌, ◌-◌, ◌<◌, ◌≤◌, List, [], length, get_or, Option, Some, Result, Ok, Err, sym, ap, subst, ◌∙◌, arith, inl, inr}
use Rattle.std.specs.Prelude.{All}
use Rattle.std.specs.List.{slice_get}
use Rattle.std.proofs.lemmas.Bool.{cases_lt}
use Rattle.std.proofs.lemmas.List.Elements.{All-contains}
use Rattle.std.proofs.lemmas.Option.{slice_get_within, slice_get-get_or, get_or_from_slice_get}
use Rattle.rb_raftlog.specs.declared.entry.Entry.{Entry}
use Rattle.rb_raftlog.specs.declared.raft_log.LogFault.{LogFault}
use Rattle.rb_raftlog.specs.Laws.{AreOfLog}
use Rattle.rb_raftlog.specs.Log.{LogValue, last, term_at, term_of, entry_at, found, first_new, appended, own, compacted}
use Rattle.rb_raftlog.proofs.TermLaws.{term_base, term_past, entry_past, is_term_is, held_in}
use Rattle.rb_raftlog.proofs.AppendLaws.{put, put_size, put_term_below, put_entry_below, put_term, put_entry, held_before, in_place, by_append}
use Rattle.rb_raftlog.proofs.PlaceLaws.{ok_is, own-last, own-held, own-term_held}
use Rattle.rb_raftlog.proofs.VoteLaws.{compacted-term, compacted-entry}
use Rattle.rb_calls.proofs.Turns.{own_size}
use Rattle.rb_laws.specs.Honesty.{IsPlain}
use Rattle.rb_laws.proofs.Links.{Link, HasLink, IsLinked, entry_there, held_term, held_entry, past_base}
use Rattle.rb_calls.proofs.ListLaws.{some_at}

-- the entries of an append, as a log that begins at the entry before them
abbrev pub log_from : ℕ → ℕ → List Entry → LogValue
log_from prev term es = record { base = prev; base_term = term; entries = es; durable = prev; overwritten = [] }

-- ---- no entries

pub none_linked : (ls : List Link) (v : LogValue) → v.entries ≡ [] → IsLinked ls v
none_linked ls v none = λ i e t at is. (let x = entry_there v (i + 1) e at in absurd (let low = slice_get_within v.entries x.0 e x.2 in omega (arith, low, ap length none)))

-- ---- an entry has its term

pub entry_term : (v : LogValue) (i : ℕ) (e : Entry) → entry_at v i ≡ Ok e → term_at v i ≡ Ok e.term
entry_term v i e at = let x = entry_there v i e at in ap (term_at v) x.1 ∙ term_past v x.0 ∙ ap (λ (o : Option Entry). term_of o) x.2

pub entry_within : (v : LogValue) (i : ℕ) (e : Entry) → entry_at v i ≡ Ok e → i ≤ last v
entry_within v i e at = (held_in v i e.term (entry_term v i e at)).1

-- ---- a part of a log, as an append has it

pub part_all : (P : Entry → Type 0) (v : LogValue) (prev : ℕ) (es : List Entry) → AreOfLog v prev es → All P v.entries → All P es
part_all P v prev es among all k d low =
    let e = get_or es k d in
    let x = entry_there v (prev + 1 + k) e (among k e (slice_get-get_or es k d low)) in
    All-contains P v.entries e all (x.0, slice_get_within v.entries x.0 e x.2, get_or_from_slice_get v.entries x.0 e e x.2)

pub part_plain : (v : LogValue) (prev : ℕ) (es : List Entry) → AreOfLog v prev es → All IsPlain v.entries → All IsPlain es
part_plain v prev es among plain = part_all IsPlain v prev es among plain

pub part_entry : (v : LogValue) (p term i : ℕ) (es : List Entry) (e : Entry) → AreOfLog v p es → entry_at (log_from p term es) i ≡ Ok e → entry_at v i ≡ Ok e
part_entry v p term i es e among at =
    let x = entry_there (log_from p term es) i e at in
    ap (entry_at v) x.1 ∙ among x.0 e x.2

part_term : (v : LogValue) (p term i t : ℕ) (es : List Entry) → v.base ≤ p → p ≤ last v → ((x : ℕ) → term_at v p ≡ Ok x → term ≡ x) → AreOfLog v p es → p ≤ i
    → term_at (log_from p term es) i ≡ Ok t → term_at v i ≡ Ok t
part_term v p term i t es above within first among over is =
    let w = log_from p term es in
    elim (cases_lt p i) as (λ _. term_at v i ≡ Ok t) [
      | inr low ↦
          let same : i ≡ p = omega (arith, low, over) in
          let b = held_term v p above within in
          let here : term ≡ t = ok_is (term_at w p) term t (term_base w) (sym (ap (term_at w) same) ∙ is) in
          ap (term_at v) same ∙ b.1 ∙ ap (λ (n : ℕ). Ok n) (sym (first b.0 b.1) ∙ here)
      | inl past ↦
          let j : ℕ = i - 1 in
          let index : i ≡ j + 1 = omega (arith, past) in
          let x = held_entry w j t (omega (arith, past)) (sym (ap (term_at w) index) ∙ is) in
          ap (term_at v) index ∙ entry_term v (j + 1) x.0 (part_entry v p term (j + 1) es x.0 among x.1) ∙ ap (λ (n : ℕ). Ok n) x.2
    ]

pub part_linked : (ls : List Link) (v : LogValue) (p term : ℕ) (es : List Entry) → v.base ≤ p → ((x : ℕ) → term_at v p ≡ Ok x → term ≡ x) → AreOfLog v p es
    → IsLinked ls v → IsLinked ls (log_from p term es)
part_linked ls v p term es above first among linked = λ i e t at is.
    (let past = past_base (log_from p term es) (i + 1) e at in
    let there = part_entry v p term (i + 1) es e among at in
    let within = entry_within v (i + 1) e there in
    linked i e t there (part_term v p term i t es above (omega (arith, past, within)) first among (omega (arith, past)) is))

-- ---- an append

-- what stands in a log with entries put in place
pub record Puts (v : LogValue) (prev term : ℕ) (es : List Entry) (c : ℕ) : Type 0 where
  pub held : term_at v prev ≡ Ok term
  pub new : first_new v (prev + 1) es ≡ Some c
  pub above : v.base ≤ prev
  pub from : prev + 1 ≤ c
  pub high : c ≤ last v + 1
  pub within : c < prev + 1 + length es

pub put_last : (v : LogValue) (prev term c : ℕ) (es : List Entry) → Puts v prev term es c → last (put v prev es c) ≡ prev + length es
put_last v prev term c es p =
    let size = put_size v prev c es p.high in
    let above = p.above in let from = p.from in let within = p.within in
    omega (arith, size, above, from, within)

pub put_sent_term : (v : LogValue) (prev term c k : ℕ) (es : List Entry) (x : Entry) → Puts v prev term es c → slice_get es k ≡ Some x → term_at (put v prev es c) (prev + 1 + k) ≡ Ok x.term
put_sent_term v prev term c k es x p at =
    elim (cases_lt (prev + 1 + k) c) as (λ _. term_at (put v prev es c) (prev + 1 + k) ≡ Ok x.term) [
      | inl low ↦ put_term_below v prev c (prev + 1 + k) es low p.high ∙ held_before v es (prev + 1) c k x p.new low at
      | inr over ↦ put_term v prev c k es x p.above p.from p.high over at
    ]

-- the term before one of the entries is the one that the append has there
put_before : (v : LogValue) (prev term c i t : ℕ) (es : List Entry) → Puts v prev term es c → prev ≤ i → i < prev + length es → term_at (put v prev es c) i ≡ Ok t → term_at (log_from prev term es) i ≡ Ok t
put_before v prev term c i t es p over within is =
    let w = log_from prev term es in
    elim (cases_lt prev i) as (λ _. term_at w i ≡ Ok t) [
      | inr low ↦
          let same : i ≡ prev = omega (arith, low, over) in
          let from = p.from in
          ap (term_at w) same ∙ term_base w ∙ sym p.held ∙ sym (put_term_below v prev c prev es (omega (arith, from)) p.high) ∙ sym (ap (term_at (put v prev es c)) same) ∙ is
      | inl past ↦
          let m : ℕ = i - prev - 1 in
          let index : i ≡ prev + 1 + m = omega (arith, past) in
          let y = some_at es m (omega (arith, past, within)) in
          ap (term_at w) index ∙ term_past w m ∙ ap (λ (o : Option Entry). term_of o) y.1
          ∙ sym (put_sent_term v prev term c m es y.0 p y.1) ∙ sym (ap (term_at (put v prev es c)) index) ∙ is
    ]

pub put_linked : (ls : List Link) (v : LogValue) (prev term c : ℕ) (es : List Entry) → Puts v prev term es c → IsLinked ls v → IsLinked ls (log_from prev term es) → IsLinked ls (put v prev es c)
put_linked ls v prev term c es p linked sent = λ i e t at is.
    (elim (cases_lt (i + 1) c) as (λ _. HasLink ls (i + 1) e t) [
      | inl low ↦
          linked i e t (sym (put_entry_below v prev c (i + 1) es low p.high) ∙ at) (sym (put_term_below v prev c i es (omega (arith, low)) p.high) ∙ is)
      | inr over ↦
          let w = log_from prev term es in
          let from = p.from in
          let k : ℕ = i - prev in
          let index : i + 1 ≡ prev + 1 + k = omega (arith, over, from) in
          let size = put_last v prev term c es p in
          let within = entry_within (put v prev es c) (i + 1) e at in
          let x = some_at es k (omega (arith, size, within, over, from)) in
          let same : x.0 ≡ e =
          ok_is (entry_at (put v prev es c) (prev + 1 + k)) x.0 e (put_entry v prev c k es x.0 p.above p.from p.high (omega (arith, over, index)) x.1) (sym (ap (entry_at (put v prev es c)) index) ∙ at) in
          let there : entry_at w (i + 1) ≡ Ok e = ap (entry_at w) index ∙ entry_past w k ∙ ap (λ (o : Option Entry). found o) x.1 ∙ ap (λ (y : Entry). Ok y) same in
          sent i e t there (put_before v prev term c i t es p (omega (arith, over, from)) (omega (arith, size, within)) is)
    ])

pub appended_linked : (ls : List Link) (v : LogValue) (prev term commit : ℕ) (es : List Entry) → IsLinked ls v → IsLinked ls (log_from prev term es) → IsLinked ls (appended v prev term es commit)
appended_linked ls v prev term commit es linked sent =
    by_append v prev term commit es (λ (x : LogValue). IsLinked ls x) linked
    (λ c over holds e. (let there = in_place v prev term c es holds e in
    put_linked ls v prev term c es (record {
      held = is_term_is (term_at v prev) term holds;
      new = e;
      above = there.0;
      from = there.1;
      high = there.2;
      within = there.3;
    }) linked sent))

-- ---- an entry of one's own

pub own_linked : (ls : List Link) (v : LogValue) (e : Entry) (before : ℕ) → IsLinked ls v → term_at v (last v) ≡ Ok before → HasLink ls (last v + 1) e before → IsLinked ls (own v e)
own_linked ls v e before linked held there = λ i x t at is.
    (elim (cases_lt i (last v)) as (λ _. HasLink ls (i + 1) x t) [
      | inl low ↦ linked i x t (sym (own-held v e (i + 1) (omega (arith, low))) ∙ at) (sym (own-term_held v e i (omega (arith, low))) ∙ is)
      | inr over ↦
          let size = own_size v e in
          let within = entry_within (own v e) (i + 1) x at in
          let here : i ≡ last v = omega (arith, over, size, within) in
          let same : e ≡ x = ok_is (entry_at (own v e) (last v + 1)) e x (own-last v e) (sym (ap (λ (j : ℕ). entry_at (own v e) (j + 1)) here) ∙ at) in
          let term : before ≡ t = ok_is (term_at v (last v)) before t held (sym (own-term_held v e (last v) (omega arith)) ∙ sym (ap (term_at (own v e)) here) ∙ is) in
          subst (λ (b : ℕ). HasLink ls (i + 1) x b) term (subst (λ (y : Entry). HasLink ls (i + 1) y before) same (subst (λ (j : ℕ). HasLink ls (j + 1) e before) (sym here) there))
    ])

-- ---- compacting

compacted_in : (ls : List Link) (v : LogValue) (i term : ℕ) → v.base < i → term_at v i ≡ Ok term → IsLinked ls v → IsLinked ls (compacted v i (Ok term))
compacted_in ls v i term low held linked = λ j e t at is.
    (let past = past_base (compacted v i (Ok term)) (j + 1) e at in
    linked j e t (sym (compacted-entry v i term (j + 1) low past) ∙ at) (sym (compacted-term v i term j low held (omega (arith, past))) ∙ is))

pub compacted_linked : (ls : List Link) (v : LogValue) (i : ℕ) (r : Result ℕ LogFault) → v.base < i → term_at v i ≡ r → IsLinked ls v → IsLinked ls (compacted v i r)
compacted_linked ls v i (Ok term) low held linked = compacted_in ls v i term low held linked
compacted_linked ls v i (Err fault) low held linked = linked
