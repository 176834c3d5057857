-- Laws of the places at which entries stand, and of what is durable.
use Rattle.std.proofs.Common.{◌≡◌, ℕ, ◌+◌, ◌-◌, ◌<◌, ◌≤◌, List, [], ◌∷◌, length, take, drop, min, Option, Some, None, Result, Ok, refl, ap, sym, ◌∙◌, arith, length-drop}
use Rattle.std.proofs.lemmas.Bool.Decides.{nat_tests}
use Rattle.std.proofs.lemmas.List.{length-take}
use Rattle.std.proofs.lemmas.Option.{slice_get_within}
use Rattle.std.specs.List.{slice_get}
use Rattle.rb_raftlog.specs.declared.entry.Entry.{Entry}
use Rattle.rb_raftlog.specs.declared.raft_log.LogFault.{LogFault}
use Rattle.rb_raftlog.specs.declared.snapshot.Snapshot.{Snapshot}
use Rattle.rb_raftlog.specs.Log.{LogValue, last, term_at, entry_at, found, first_new, appended, own, compacted, restored, entries_after, entries_from, between, not_durable}
use Rattle.rb_raftlog.proofs.TermLaws.{is_term_from, term_base, entry_past, IsSameUpTo, same_term, same_entry, slice_get_left, slice_get_taken, slice_get_back, slice_get_drop}
use Rattle.rb_raftlog.proofs.AppendLaws.{put_size, put_entry_below, in_place, appended_new, by_append}

-- ---- an append

pub replaced-last : (v : LogValue) (prev term commit c : ℕ) (es : List Entry) → commit ≤ prev → term_at v prev ≡ Ok term → first_new v (prev + 1) es ≡ Some c → last (appended v prev term es commit) ≡ prev + length es
replaced-last v prev term commit c es over at new =
    let there = in_place v prev term c es (is_term_from (term_at v prev) term at) new in
    let size = put_size v prev c es there.2 in
    ap last (appended_new v prev term commit c es over at new) ∙ omega (arith, there.0, there.1, there.2, there.3, size)

pub replaced-durable : (v : LogValue) (prev term commit c : ℕ) (es : List Entry) → commit ≤ prev → term_at v prev ≡ Ok term → first_new v (prev + 1) es ≡ Some c → (appended v prev term es commit).durable ≡ min v.durable (c - 1)
replaced-durable v prev term commit c es over at new = ap (λ (w : LogValue). w.durable) (appended_new v prev term commit c es over at new)

pub durable-falls : (v : LogValue) (prev term commit : ℕ) (es : List Entry) → (appended v prev term es commit).durable ≤ v.durable
durable-falls v prev term commit es =
    by_append v prev term commit es (λ w. w.durable ≤ v.durable) (omega arith) (λ c over holds e. omega arith)

pub durable-entries : (v : LogValue) (prev term commit i : ℕ) (es : List Entry) → i ≤ (appended v prev term es commit).durable → entry_at (appended v prev term es commit) i ≡ entry_at v i
durable-entries v prev term commit i es =
    by_append v prev term commit es (λ w. i ≤ w.durable → entry_at w i ≡ entry_at v i) (λ _. refl)
    (λ c over holds e low. (let there = in_place v prev term c es holds e in put_entry_below v prev c i es (omega (arith, low, there.1)) there.2))

-- ---- an entry of one's own

pub own-last : (v : LogValue) (e : Entry) → entry_at (own v e) (last v + 1) ≡ Ok e
own-last v e =
    let index : last v + 1 ≡ v.base + 1 + (length v.entries + 0) = omega arith in
    ap (entry_at (own v e)) index ∙ entry_past (own v e) (length v.entries + 0)
    ∙ ap (λ (o : Option Entry). found o) (slice_get_back v.entries (e ∷ []) (length v.entries) 0 refl)

own_same : (v : LogValue) (e : Entry) → IsSameUpTo v (own v e) (last v)
own_same v e = record { base = refl; base_term = refl; entries = λ k low. slice_get_left v.entries (e ∷ []) k (omega (arith, low)) }

pub own-held : (v : LogValue) (e : Entry) (i : ℕ) → i ≤ last v → entry_at (own v e) i ≡ entry_at v i
own-held v e i low = same_entry v (own v e) (last v) i (own_same v e) low

pub own-term_held : (v : LogValue) (e : Entry) (i : ℕ) → i ≤ last v → term_at (own v e) i ≡ term_at v i
own-term_held v e i low = same_term v (own v e) (last v) i (own_same v e) low

-- ---- compacting and snapshots

pub compacted-ends : (v : LogValue) (i term : ℕ) → v.base < i → i ≤ last v → ((compacted v i (Ok term)).base ≡ i) × (last (compacted v i (Ok term)) ≡ last v) × ((compacted v i (Ok term)).durable ≡ v.durable)
compacted-ends v i term low high =
    let size : length (drop (i - v.base) v.entries) ≡ length v.entries - (i - v.base) = length-drop (i - v.base) v.entries in
    (refl, omega arith, refl)

pub restored-ends : (v : LogValue) (s : Snapshot) → (term_at (restored v s) s.index ≡ Ok s.term) × (last (restored v s) ≡ s.index) × ((restored v s).durable ≡ s.index)
restored-ends v s = (term_base (restored v s), omega arith, refl)

-- ---- lists of entries

pub ok_is : {X : Type 0} (r : Result X LogFault) (x y : X) → r ≡ Ok x → r ≡ Ok y → x ≡ y
ok_is r x y e f = cc

-- what entries_from has
from_is : (v : LogValue) (from : ℕ) (es : List Entry) → entries_from v from ≡ Ok es → (v.base < from) × (from ≤ last v + 1) × (es ≡ entries_after v (from - 1))
from_is v from es e = grind (arith, nat_tests)

-- the entry at a place behind an index that is not below the base
pub entry_after : (v : LogValue) (i k : ℕ) → v.base ≤ i → entry_at v (i + 1 + k) ≡ found (slice_get v.entries (i - v.base + k))
entry_after v i k above =
    let index : i + 1 + k ≡ v.base + 1 + (i - v.base + k) = omega arith in
    ap (entry_at v) index ∙ entry_past v (i - v.base + k)

pub found_is : (o : Option Entry) (e : Entry) → found o ≡ Ok e → o ≡ Some e
found_is None e h = cc
found_is (Some x) e h = cc

pub from-entries : (v : LogValue) (from k : ℕ) (es : List Entry) (e : Entry) → entries_from v from ≡ Ok es → slice_get es k ≡ Some e → entry_at v (from + k) ≡ Ok e
from-entries v from k es e h at =
    let is = from_is v from es h in
    let index : from + k ≡ from - 1 + 1 + k = omega (arith, is.0) in
    ap (entry_at v) index ∙ entry_after v (from - 1) k (omega (arith, is.0))
    ∙ ap (λ (o : Option Entry). found o) (sym (slice_get_drop v.entries (from - 1 - v.base) k) ∙ sym (ap (λ (l : List Entry). slice_get l k) is.2) ∙ at)

pub from-all : (v : LogValue) (from : ℕ) (es : List Entry) → entries_from v from ≡ Ok es → from + length es ≡ last v + 1
from-all v from es h =
    let is = from_is v from es h in
    let size : length es ≡ length v.entries - (from - 1 - v.base) = ap length is.2 ∙ length-drop (from - 1 - v.base) v.entries in
    omega (arith, is.0, is.1, size)

pub between-entries : (v : LogValue) (after upto k : ℕ) (e : Entry) → v.base ≤ after → slice_get (between v after upto) k ≡ Some e → (entry_at v (after + 1 + k) ≡ Ok e) × (after + 1 + k ≤ upto)
between-entries v after upto k e above at =
    let n : ℕ = upto - v.base in
    let there : slice_get (take n v.entries) (after - v.base + k) ≡ Some e = sym (slice_get_drop (take n v.entries) (after - v.base) k) ∙ at in
    let low : after - v.base + k < length (take n v.entries) = slice_get_within (take n v.entries) (after - v.base + k) e there in
    let size : length (take n v.entries) ≡ min n (length v.entries) = length-take n v.entries in
    let within : after - v.base + k < n = omega (arith, low, size) in
    (entry_after v after k above ∙ ap (λ (o : Option Entry). found o) (sym (slice_get_taken v.entries n (after - v.base + k) within) ∙ there), omega (arith, within))

pub between-all : (v : LogValue) (after upto k : ℕ) (e : Entry) → v.base ≤ after → after + 1 + k ≤ upto → entry_at v (after + 1 + k) ≡ Ok e → slice_get (between v after upto) k ≡ Some e
between-all v after upto k e above within at =
    slice_get_drop (take (upto - v.base) v.entries) (after - v.base) k
    ∙ slice_get_taken v.entries (upto - v.base) (after - v.base + k) (omega (arith, within))
    ∙ found_is (slice_get v.entries (after - v.base + k)) e (sym (entry_after v after k above) ∙ at)

pub not_durable-entries : (v : LogValue) (k : ℕ) (e : Entry) → v.base ≤ v.durable → slice_get (not_durable v) k ≡ Some e → entry_at v (v.durable + 1 + k) ≡ Ok e
not_durable-entries v k e above at =
    entry_after v v.durable k above ∙ ap (λ (o : Option Entry). found o) (sym (slice_get_drop v.entries (v.durable - v.base) k) ∙ at)

pub not_durable-all : (v : LogValue) → v.base ≤ v.durable → v.durable ≤ last v → v.durable + length (not_durable v) ≡ last v
not_durable-all v above within = omega (arith, length-drop (v.durable - v.base) v.entries)
