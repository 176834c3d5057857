-- What stands is what is written, and what stood before; a log is what stays of the one before, and what is written.
use Rattle.std.proofs.Common.{◌≡◌, ◌∙◌, ℕ, zero, suc, ◌+◌, ◌-◌, ◌<◌, ◌⊎◌, inl, inr, Bool, true, false, List, [], ◌∷◌, ◌++◌, length, take, drop, refl, ap, ap₂, sym, subst, append-nil, arith}
use Rattle.std.specs.Prelude.{◌&&◌, ◌==◌, Contains, if◌then◌else◌}
use Rattle.std.specs.List.{flat_map, slice_index_or}
use Rattle.std.proofs.lemmas.Bool.{and_parts, le-leb}
use Rattle.std.proofs.lemmas.Bool.Decides.{Decides-eqb}
use Rattle.std.proofs.lemmas.List.{take-append-drop, take_all}
use Rattle.std.proofs.lemmas.List.Elements.{Contains-append_left, Contains-append_right}
use Rattle.rb_raftlog.specs.declared.entry.Entry.{Entry}
use Rattle.rb_raftlog.specs.Log.{LogValue, entries_after, last}
use Rattle.rb_node.specs.Node.{PlainNode}
use Rattle.rb_tracker.specs.Progresses.{PlainProgress}
use Rattle.rb_tracker.specs.Trackers.{has_view}
use Rattle.rb_script.specs.Lines.{Line}
use Rattle.rb_view.specs.Kept.{texts_of}
use Rattle.rb_view.specs.Rows.{Row, next_text}
use Rattle.rb_view.specs.Logs.{common, entries_read, held_after, is_same_log, log_changes, same_entry, stays}
use Rattle.rb_view.specs.NewRows.{has_text, new_row, new_rows}
use Rattle.rb_view.specs.States.{changed_rows, gone_of, gone_rows, no_view_row, standing}
use Rattle.rb_view.proofs.LogLaws.{after_last, same_entry-Decides}

-- ---- what stands

-- a row alone
alone : (x r : Row) → x ≡ r → Contains (x ∷ []) r
alone x r is = (0, omega arith, is)

new_first : (t : Bool) (olds : List Line) (x r : Row) → has_text olds (next_text x) ≡ t → x ≡ r → Contains (if t then [] else x ∷ []) r ⊎ (has_text olds (next_text r) ≡ true)
new_first true olds x r there is = inr (ap (λ (y : Row). has_text olds (next_text y)) (sym is) ∙ there)
new_first false olds x r there is = inl (alone x r is)

-- a row is new or was there
new_or_there : (olds : List Line) (rs : List Row) (k : ℕ) (r : Row) → k < length rs → slice_index_or rs k r ≡ r → Contains (flat_map (new_row olds) rs) r ⊎ (has_text olds (next_text r) ≡ true)
new_or_there olds [] k r low is = absurd (omega (arith, low))
new_or_there olds (x ∷ rs) zero r low is =
    elim (new_first (has_text olds (next_text x)) olds x r refl is) as (λ _. Contains (flat_map (new_row olds) (x ∷ rs)) r ⊎ (has_text olds (next_text r) ≡ true)) [
      | inl h ↦ inl (Contains-append_left (new_row olds x) (flat_map (new_row olds) rs) r h)
      | inr h ↦ inr h
    ]
new_or_there olds (x ∷ rs) (suc k) r low is =
    elim (new_or_there olds rs k r (omega (arith, low)) is) as (λ _. Contains (flat_map (new_row olds) (x ∷ rs)) r ⊎ (has_text olds (next_text r) ≡ true)) [
      | inl h ↦ inl (Contains-append_right (new_row olds x) (flat_map (new_row olds) rs) r h)
      | inr h ↦ inr h
    ]

pub stands_or_stood : (old new : PlainNode) (r : Row) → Contains (standing new) r → Contains (changed_rows old new) r ⊎ (has_text (texts_of (standing old)) (next_text r) ≡ true)
stands_or_stood old new r (k, low, is) =
    let rest = gone_rows new.id old.tracker.views new.tracker.views ++ log_changes new.id old.log new.log in
    elim (new_or_there (texts_of (standing old)) (standing new) k r low is) as (λ _. Contains (changed_rows old new) r ⊎ (has_text (texts_of (standing old)) (next_text r) ≡ true)) [
      | inl h ↦ inl (Contains-append_left (new_rows (standing old) (standing new)) rest r h)
      | inr h ↦ inr h
    ]

-- a view that is gone
gone_there : (id : ℕ) (vs news : List (ℕ × PlainProgress)) (k : ℕ) (v : ℕ × PlainProgress) → k < length vs → slice_index_or vs k v ≡ v → has_view news v.0 ≡ false → Contains (gone_rows id vs news) (no_view_row id v.0)
gone_there id [] news k v low is none = absurd (omega (arith, low))
gone_there id (w ∷ vs) news zero v low is none =
    let gone : has_view news w.0 ≡ false = ap (λ (x : ℕ × PlainProgress). has_view news x.0) is ∙ none in
    let one : gone_of id news w.0 ≡ no_view_row id w.0 ∷ [] = ap (λ (t : Bool). if t then [] else no_view_row id w.0 ∷ []) gone in
    Contains-append_left (gone_of id news w.0) (gone_rows id vs news) (no_view_row id v.0)
    (subst (λ (rs : List Row). Contains rs (no_view_row id v.0)) (sym one) (alone (no_view_row id w.0) (no_view_row id v.0) (ap (λ (x : ℕ × PlainProgress). no_view_row id x.0) is)))
gone_there id (w ∷ vs) news (suc k) v low is none =
    Contains-append_right (gone_of id news w.0) (gone_rows id vs news) (no_view_row id v.0) (gone_there id vs news k v (omega (arith, low)) is none)

pub views_end : (old new : PlainNode) (v : ℕ × PlainProgress) → Contains old.tracker.views v → has_view new.tracker.views v.0 ≡ false → Contains (changed_rows old new) (no_view_row new.id v.0)
views_end old new v (k, low, is) none =
    let gone = gone_rows new.id old.tracker.views new.tracker.views in
    let log = log_changes new.id old.log new.log in
    Contains-append_right (new_rows (standing old) (standing new)) (gone ++ log) (no_view_row new.id v.0)
    (Contains-append_left gone log (no_view_row new.id v.0) (gone_there new.id old.tracker.views new.tracker.views k v low is none))

-- ---- what is common

take_more : (n : ℕ) (e : Entry) (es : List Entry) → take (1 + n) (e ∷ es) ≡ e ∷ take n es
take_more n e es = let more : 1 + n ≡ suc n = omega arith in ap (λ (k : ℕ). take k (e ∷ es)) more

front_by : (t : Bool) (x y : Entry) (xs ys : List Entry) → same_entry x y ≡ t → take (common xs ys) xs ≡ take (common xs ys) ys
    → take (if t then 1 + common xs ys else 0) (x ∷ xs) ≡ take (if t then 1 + common xs ys else 0) (y ∷ ys)
front_by true x y xs ys same rest =
    take_more (common xs ys) x xs ∙ ap₂ (λ (e : Entry) (es : List Entry). e ∷ es) ((same_entry-Decides x y).0 same) rest ∙ sym (take_more (common xs ys) y ys)
front_by false x y xs ys same rest = refl

common_front : (xs ys : List Entry) → take (common xs ys) xs ≡ take (common xs ys) ys
common_front [] ys = refl
common_front (x ∷ xs) [] = refl
common_front (x ∷ xs) (y ∷ ys) = front_by (same_entry x y) x y xs ys refl (common_front xs ys)

-- ---- what is read

pub reads_back : (old new : LogValue) → new.entries ≡ entries_read old new.base (stays old new) (entries_after new (stays old new))
reads_back old new =
    let held = held_after old new.base in
    let count = common held new.entries in
    let at : count ≡ stays old new - new.base = omega arith in
    sym (take-append-drop count new.entries) ∙ ap (λ (es : List Entry). es ++ drop count new.entries) (sym (common_front held new.entries))
    ∙ ap (λ (k : ℕ). take k held ++ drop k new.entries) at

-- a log that is as it was
pub still_reads_back : (old new : LogValue) → is_same_log old new ≡ true → (new.base ≡ old.base) × (new.base_term ≡ old.base_term) × (new.entries ≡ old.entries)
still_reads_back old new is =
    let index = stays old new in
    let all = and_parts (old.base == new.base && old.base_term == new.base_term && index == last old) (index == last new) is in
    let three = and_parts (old.base == new.base && old.base_term == new.base_term) (index == last old) all.0 in
    let two = and_parts (old.base == new.base) (old.base_term == new.base_term) three.0 in
    let base : old.base ≡ new.base = (Decides-eqb old.base new.base).0 two.0 in
    let term : old.base_term ≡ new.base_term = (Decides-eqb old.base_term new.base_term).0 two.1 in
    let old_end : index ≡ last old = (Decides-eqb index (last old)).0 three.1 in
    let new_end : index ≡ last new = (Decides-eqb index (last new)).0 all.1 in
    let none : new.base - old.base ≡ 0 = omega (arith, base) in
    let held : held_after old new.base ≡ old.entries =
    ap (λ (t : Bool). if t then entries_after old new.base else []) (le-leb old.base new.base (omega (arith, base))) ∙ ap (λ (k : ℕ). drop k old.entries) none in
    let whole : take (index - new.base) old.entries ≡ old.entries = take_all (index - new.base) old.entries (omega (arith, base, old_end)) in
    let entries : new.entries ≡ old.entries =
    reads_back old new ∙ ap₂ (λ (es fs : List Entry). take (index - new.base) es ++ fs) held (after_last new index (omega (arith, new_end))) ∙ append-nil (take (index - new.base) old.entries) ∙ whole in
    (sym base, sym term, entries)
