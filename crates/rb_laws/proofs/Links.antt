-- Links: each entry of a log comes after an entry of some term. Logs whose entries all stand as one list of links has them, in which an index has
-- one link of a term, match (Ongaro's thesis, section 3.5).
use Rattle.std.proofs.Common.{◌≡◌, ℕ, zero, suc, ◌+◌, ◌-◌, ◌<◌, ◌≤◌, List, [], ◌∷◌, ◌++◌, Option, Some, None, Ok, Err, refl, sym, ap, ◌∙◌, arith, inl, inr}
use Rattle.std.specs.Prelude.{Contains}
use Rattle.std.specs.List.{slice_get}
use Rattle.std.proofs.lemmas.Bool.{cases_lt}
use Rattle.std.proofs.lemmas.List.Elements.{Contains-append_left, Contains-push_cases}
use Rattle.rb_raftlog.specs.declared.entry.Entry.{Entry}
use Rattle.rb_raftlog.specs.declared.raft_log.LogFault.{LogFault}
use Rattle.rb_raftlog.specs.declared.raft_log.LogFault.TheVariants.{Compacted, Unavailable}
use Rattle.rb_raftlog.specs.Laws.{AreMatching}
use Rattle.rb_raftlog.specs.Log.{LogValue, last, term_at, term_of, entry_at, found}
use Rattle.rb_raftlog.proofs.TermLaws.{by_index, term_base, term_past, entry_below, entry_past, held_in}
use Rattle.rb_calls.proofs.ListLaws.{some_at}

-- an entry at an index, the term of the one before it, and the node that appended it as leader
pub record Link : Type 0 where
  pub index : ℕ
  pub entry : Entry
  pub before : ℕ
  pub maker : ℕ

abbrev pub link : ℕ → Entry → ℕ → ℕ → Link
link index entry before maker = record { index = index; entry = entry; before = before; maker = maker }

abbrev pub HasLink : List Link → ℕ → Entry → ℕ → Type 0
HasLink ls i e before = (maker : ℕ) × Contains ls (link i e before maker)

-- each entry of a log stands as the links have it
abbrev pub IsLinked : List Link → LogValue → Type 0
IsLinked ls v = (i : ℕ) (e : Entry) (t : ℕ) → entry_at v (i + 1) ≡ Ok e → term_at v i ≡ Ok t → HasLink ls (i + 1) e t

-- an index has one link of a term
abbrev pub AreSingle : List Link → Type 0
AreSingle ls = (a b : Link) → Contains ls a → Contains ls b → a.index ≡ b.index → a.entry.term ≡ b.entry.term → a ≡ b

abbrev pub Extends : List Link → List Link → Type 0
Extends old new = (l : Link) → Contains old l → Contains new l

pub still_linked : (old new : List Link) (v : LogValue) → Extends old new → IsLinked old v → IsLinked new v
still_linked old new v more linked = λ i e t at is. (let l = linked i e t at is in (l.0, more (link (i + 1) e t l.0) l.1))

-- ---- what is held

err_ok : {X : Type 0} (fault : LogFault) (x : X) → Err fault ≡ Ok x → ⊥
err_ok fault x e = cc

is_found : (o : Option Entry) (e : Entry) → found o ≡ Ok e → o ≡ Some e
is_found None e is = absurd (err_ok Unavailable e is)
is_found (Some x) e is = ap (λ (y : Entry). Some y) (let same : x ≡ e = cc in same)

of_term : (o : Option Entry) (t : ℕ) → term_of o ≡ Ok t → (e : Entry) × (found o ≡ Ok e) × (e.term ≡ t)
of_term None t is = absurd (err_ok Unavailable t is)
of_term (Some x) t is = (x, refl, let same : x.term ≡ t = cc in same)

-- an entry stands past the base
pub entry_there : (v : LogValue) (i : ℕ) (e : Entry) → entry_at v i ≡ Ok e → (k : ℕ) × (i ≡ v.base + 1 + k) × (slice_get v.entries k ≡ Some e)
entry_there v i e at =
    by_index v.base (λ (j : ℕ). entry_at v j ≡ Ok e → (k : ℕ) × (j ≡ v.base + 1 + k) × (slice_get v.entries k ≡ Some e))
    (λ j low is. absurd (err_ok Compacted e (sym (entry_below v j (omega (arith, low))) ∙ is)))
    (λ is. absurd (err_ok Compacted e (sym (entry_below v v.base (omega arith)) ∙ is)))
    (λ k is. (k, refl, is_found (slice_get v.entries k) e (sym (entry_past v k) ∙ is)))
    i at

pub past_base : (v : LogValue) (i : ℕ) (e : Entry) → entry_at v i ≡ Ok e → v.base < i
past_base v i e at = let x = entry_there v i e at in omega (arith, x.1)

-- the entry at an index past the base that has a term
pub held_entry : (v : LogValue) (i t : ℕ) → v.base ≤ i → term_at v (i + 1) ≡ Ok t → (e : Entry) × (entry_at v (i + 1) ≡ Ok e) × (e.term ≡ t)
held_entry v i t above at =
    let k : ℕ = i - v.base in
    let index : i + 1 ≡ v.base + 1 + k = omega (arith, above) in
    let x = of_term (slice_get v.entries k) t (sym (term_past v k) ∙ sym (ap (term_at v) index) ∙ at) in
    (x.0, ap (entry_at v) index ∙ entry_past v k ∙ x.1, x.2)

-- the term at an index that a log has
pub held_term : (v : LogValue) (i : ℕ) → v.base ≤ i → i ≤ last v → (t : ℕ) × (term_at v i ≡ Ok t)
held_term v i above within =
    elim (cases_lt v.base i) as (λ _. (t : ℕ) × (term_at v i ≡ Ok t)) [
      | inr low ↦ (let same : i ≡ v.base = omega (arith, above, low) in (v.base_term, ap (term_at v) same ∙ term_base v))
      | inl past ↦
          let k : ℕ = i - v.base - 1 in
          let index : i ≡ v.base + 1 + k = omega (arith, past) in
          let x = some_at v.entries k (omega (arith, past, within)) in
          (x.0.term, ap (term_at v) index ∙ term_past v k ∙ ap (λ (o : Option Entry). term_of o) x.1)
    ]

-- ---- logs of the same links match

record SameBefore (v w : LogValue) (i : ℕ) : Type 0 where
  entries : entry_at v (i + 1) ≡ entry_at w (i + 1)
  before : ℕ
  first : term_at v i ≡ Ok before
  second : term_at w i ≡ Ok before

same_before : (ls : List Link) (v w : LogValue) (i t : ℕ) → AreSingle ls → IsLinked ls v → IsLinked ls w → v.base ≤ i → w.base ≤ i → term_at v (i + 1) ≡ Ok t → term_at w (i + 1) ≡ Ok t → SameBefore v w i
same_before ls v w i t single in_v in_w above over at there =
    let x = held_entry v i t above at in
    let y = held_entry w i t over there in
    let a = held_term v i above (let within = (held_in v (i + 1) t at).1 in omega (arith, within)) in
    let b = held_term w i over (let within = (held_in w (i + 1) t there).1 in omega (arith, within)) in
    let l = in_v i x.0 a.0 x.1 a.1 in
    let m = in_w i y.0 b.0 y.1 b.1 in
    let same : link (i + 1) x.0 a.0 l.0 ≡ link (i + 1) y.0 b.0 m.0 =
    single (link (i + 1) x.0 a.0 l.0) (link (i + 1) y.0 b.0 m.0) l.1 m.1 refl (x.2 ∙ sym y.2) in
    record {
      entries = x.1 ∙ ap (λ (z : Link). Ok z.entry) same ∙ sym y.1;
      before = a.0;
      first = a.1;
      second = b.1 ∙ sym (ap (λ (z : Link). Ok z.before) same);
    }

-- down from an index at which both have a term
walk : (ls : List Link) (v w : LogValue) (j d t : ℕ) → AreSingle ls → IsLinked ls v → IsLinked ls w → v.base ≤ j → w.base ≤ j → term_at v (j + d) ≡ Ok t → term_at w (j + d) ≡ Ok t → (b : ℕ) × (term_at v j ≡ Ok b) × (term_at w j ≡ Ok b)
walk ls v w j zero t single in_v in_w above over at there =
    let here : j + zero ≡ j = omega arith in (t, sym (ap (term_at v) here) ∙ at, sym (ap (term_at w) here) ∙ there)
walk ls v w j (suc d) t single in_v in_w above over at there =
    let next : j + suc d ≡ j + d + 1 = omega arith in
    let s = same_before ls v w (j + d) t single in_v in_w (omega (arith, above)) (omega (arith, over)) (sym (ap (term_at v) next) ∙ at) (sym (ap (term_at w) next) ∙ there) in
    walk ls v w j d s.before single in_v in_w above over s.first s.second

terms_match : (ls : List Link) (v w : LogValue) (i j t : ℕ) → AreSingle ls → IsLinked ls v → IsLinked ls w → term_at v i ≡ Ok t → term_at w i ≡ Ok t → j ≤ i → v.base ≤ j → w.base ≤ j → (b : ℕ) × (term_at v j ≡ Ok b) × (term_at w j ≡ Ok b)
terms_match ls v w i j t single in_v in_w at there low above over =
    let d : ℕ = i - j in
    let index : i ≡ j + d = omega (arith, low) in
    walk ls v w j d t single in_v in_w above over (sym (ap (term_at v) index) ∙ at) (sym (ap (term_at w) index) ∙ there)

entries_match : (ls : List Link) (v w : LogValue) (i j t : ℕ) → AreSingle ls → IsLinked ls v → IsLinked ls w → term_at v i ≡ Ok t → term_at w i ≡ Ok t → j ≤ i → v.base < j → w.base < j → entry_at v j ≡ entry_at w j
entries_match ls v w i j t single in_v in_w at there low above over =
    let b = terms_match ls v w i j t single in_v in_w at there low (omega (arith, above)) (omega (arith, over)) in
    let k : ℕ = j - 1 in
    let index : j ≡ k + 1 = omega (arith, above) in
    let s = same_before ls v w k b.0 single in_v in_w (omega (arith, above)) (omega (arith, over)) (sym (ap (term_at v) index) ∙ b.1) (sym (ap (term_at w) index) ∙ b.2) in
    ap (entry_at v) index ∙ s.entries ∙ sym (ap (entry_at w) index)

pub linked_match : (ls : List Link) (v w : LogValue) → AreSingle ls → IsLinked ls v → IsLinked ls w → AreMatching v w
linked_match ls v w single in_v in_w = record {
  terms = λ i j t at there low above over. (let b = terms_match ls v w i j t single in_v in_w at there low above over in b.1 ∙ sym b.2);
  entries = λ i j t at there low above over. entries_match ls v w i j t single in_v in_w at there low above over;
}

-- ---- one link more

pub push_extends : (ls : List Link) (l : Link) → Extends ls (ls ++ l ∷ [])
push_extends ls l = λ m among. Contains-append_left ls (l ∷ []) m among

-- where no link of the index and the term was there
pub push_single : (ls : List Link) (l : Link) → ((m : Link) → Contains ls m → m.index ≡ l.index → m.entry.term ≡ l.entry.term → ⊥) → AreSingle ls → AreSingle (ls ++ l ∷ [])
push_single ls l none single = λ a b one two index term.
    (elim (Contains-push_cases ls l a one) as (λ _. a ≡ b) [
      | inl first ↦ elim (Contains-push_cases ls l b two) as (λ _. a ≡ b) [
        | inl second ↦ single a b first second index term
        | inr new ↦ absurd (none a first (index ∙ sym (ap (λ (z : Link). z.index) new)) (term ∙ sym (ap (λ (z : Link). z.entry.term) new)))
      ]
      | inr new ↦ elim (Contains-push_cases ls l b two) as (λ _. a ≡ b) [
        | inl second ↦ absurd (none b second (sym index ∙ sym (ap (λ (z : Link). z.index) new)) (sym term ∙ sym (ap (λ (z : Link). z.entry.term) new)))
        | inr too ↦ sym new ∙ too
      ]
    ])
