-- the entries past one index and up to another
use Rattle.std.proofs.Common.{◌≡◌, ℕ, ◌+◌, ◌-◌, ◌<◌, max, min, List, length, take, slice_get, Option, Some, ap, sym, subst, refl, ◌∙◌, arith, length-drop, inl, inr, Result, Ok, IsOk}
use Rattle.std.proofs.lemmas.Option.{slice_get_cases}
use Rattle.std.proofs.lemmas.List.{length-take}
use Rattle.rb_raftlog.specs.declared.entry.Entry.{Entry}
use Rattle.rb_raftlog.specs.declared.raft_log.LogFault.{LogFault}
use Rattle.rb_raftlog.specs.Log.{LogValue, last, between, entry_at, found}
use Rattle.rb_raftlog.proofs.TermLaws.{entry_past, slice_get_taken, slice_get_drop}
use Rattle.rb_raftlog.proofs.PlaceLaws.{found_is}

-- how many they are
pub between_sizes : (v : LogValue) (after upto : ℕ) → length (between v after upto) ≡ min upto (last v) - max after v.base
between_sizes v after upto = simp (length-drop, length-take) (omega arith)

-- the entry at an index among them
pub between_entries : (v : LogValue) (after upto k i : ℕ) → i ≡ max after v.base + 1 + k → k < length (between v after upto) → entry_at v i ≡ found (slice_get (between v after upto) k)
between_entries v after upto k i place within =
    let sizes = between_sizes v after upto in
    let at : ℕ = after - v.base + k in
    let index : i ≡ v.base + 1 + at = omega arith in
    ap (entry_at v) index ∙ entry_past v at
    ∙ ap found (sym (slice_get_taken v.entries (upto - v.base) at (omega arith)) ∙ sym (slice_get_drop (take (upto - v.base) v.entries) (after - v.base) k))

-- an entry that is found there is the one among them
pub between_found : (v : LogValue) (after upto k i : ℕ) (e : Entry) → entry_at v i ≡ Ok e → i ≡ max after v.base + 1 + k → k < length (between v after upto) → slice_get (between v after upto) k ≡ Some e
between_found v after upto k i e is place within =
    found_is (slice_get (between v after upto) k) e (sym (between_entries v after upto k i place within) ∙ is)

-- and there is one
is_found : (xs : List Entry) (k : ℕ) → k < length xs → IsOk (found (slice_get xs k))
is_found xs k within =
    elim (slice_get_cases xs k).1 [
      | inl h ↦ (let P : Option Entry → Type 0 = λ o. IsOk (found o) in subst P (sym h.2) refl)
      | inr h ↦ absurd (omega (arith, h.0, within))
    ]

pub between_is_found : (v : LogValue) (after upto k i : ℕ) → i ≡ max after v.base + 1 + k → k < length (between v after upto) → IsOk (entry_at v i)
between_is_found v after upto k i place within =
    let P : Result Entry LogFault → Type 0 = λ r. IsOk r in
    subst P (sym (between_entries v after upto k i place within)) (is_found (between v after upto) k within)
