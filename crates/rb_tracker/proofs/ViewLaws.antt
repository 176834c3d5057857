-- Lemmas on views by id
use Rattle.std.proofs.Common.{◌≡◌, ◌≤◌, ◌<◌, is_some, length, take, drop, ℕ, zero, suc, ◌+◌, Bool, true, false, cond, List, [], ◌∷◌, ◌++◌, slice_get, Option, Some, None, refl, ap, ◌∙◌, nat_eq, ◌==◌, if◌then◌else◌}
use Rattle.std.specs.List.{insert}
use Rattle.std.specs.Map.{keys_of, lookup, remove_entry}
use Rattle.std.specs.Option.{option_map}
use Rattle.std.specs.Cmp.{nat_eq_equiv}
use Rattle.std.proofs.lemmas.Bool.{lt-ltb, le-ltb}
use Rattle.std.proofs.lemmas.List.{map-append, take-map, drop-map, drop_more}
use Rattle.std.proofs.lemmas.Option.{slice_get-map, slice_get_within, get_or_from_slice_get}
use Rattle.indexmap.specs.IndexMap.{insert_entry, move_index}
use Rattle.indexmap.specs.Layout.{set_value_at}
use Rattle.indexmap.proofs.MoveLemmas.{push_moved}
use Rattle.rb_tracker.specs.Sets.{has, with_id, union, rank, AreAbove}
use Rattle.rb_tracker.specs.Progresses.{PlainProgress}
use Rattle.rb_tracker.specs.Trackers.{PlainTracker, has_view, with_new, AreInOrder}
use Rattle.rb_tracker.proofs.SetLaws.{if_both, insert_is_with_id, ascending_with_id}
use Rattle.rb_tracker.proofs.WindowLaws.{take_more_some}

insert_step : (b : Bool) (e : ℕ × PlainProgress) (es new : List (ℕ × PlainProgress)) (k : ℕ) (v : PlainProgress) (rest : Option PlainProgress)
    → cond b (Some e.1) rest ≡ None → (rest ≡ None → new ≡ es ++ (k, v) ∷ []) → (if b then (e.0, v) ∷ es else e ∷ new) ≡ e ∷ (es ++ (k, v) ∷ [])
insert_step true e es new k v rest none more = cc
insert_step false e es new k v rest none more = ap (λ l. e ∷ l) (more none)

-- a new key goes last
pub insert_new : (es : List (ℕ × PlainProgress)) (k : ℕ) (v : PlainProgress) → lookup (nat_eq k) es ≡ None → insert_entry nat_eq es k v ≡ es ++ (k, v) ∷ []
insert_new [] k v none = refl
insert_new (e ∷ es) k v none = insert_step (nat_eq k e.0) e es _ k v (lookup (nat_eq k) es) none (insert_new es k v)

none_of : {X : Type 0} (o : Option X) → is_some o ≡ false → o ≡ None
none_of None h = refl
none_of (Some x) h = cc

-- a new key, moved from the end to its place
pub put_new : (es : List (ℕ × PlainProgress)) (k : ℕ) (v : PlainProgress) (i : ℕ) → is_some (lookup (nat_eq k) es) ≡ false → i ≤ length es → move_index (insert_entry nat_eq es k v) (length es) i ≡ insert es i (k, v)
put_new es k v i absent within = rw (insert_new es k v (none_of _ absent)) (push_moved es (k, v) i within)

-- the key at a place
pub key_at : (es : List (ℕ × PlainProgress)) (i : ℕ) (e : ℕ × PlainProgress) → slice_get es i ≡ Some e → slice_get (keys_of es) i ≡ Some e.0
key_at es i e h = slice_get-map (λ f. f.0) es i ∙ ap (option_map (λ f. f.0)) h

union_push : (xs ys : List ℕ) (y : ℕ) → union xs (ys ++ y ∷ []) ≡ with_id (union xs ys) y
union_push xs [] y = refl
union_push xs (z ∷ zs) y = union_push (with_id xs z) zs y

-- one more id
pub ids_more : (es : List (ℕ × PlainProgress)) (i : ℕ) (e : ℕ × PlainProgress) → slice_get es i ≡ Some e → union [] (take (i + 1) (keys_of es)) ≡ with_id (union [] (take i (keys_of es))) e.0
ids_more es i e h = rw (take_more_some (keys_of es) i e.0 (key_at es i e h)) (union_push [] (take i (keys_of es)) e.0)

drop_more_some : (xs : List ℕ) (i x : ℕ) → slice_get xs i ≡ Some x → drop i xs ≡ x ∷ drop (i + 1) xs
drop_more_some xs i x h = drop_more xs i x (slice_get_within xs i x h) ∙ ap (λ y. y ∷ drop (i + 1) xs) (get_or_from_slice_get xs i x x h)

-- an id stands past the views of lower ids
pub rank_past : (es : List (ℕ × PlainProgress)) (i id : ℕ) (e : ℕ × PlainProgress) → slice_get es i ≡ Some e → e.0 < id → rank (drop i (keys_of es)) id ≡ rank (drop (i + 1) (keys_of es)) id + 1
rank_past es i id e h lower = rw (drop_more_some (keys_of es) i e.0 (key_at es i e h), lt-ltb e.0 id lower) refl

pub rank_here : (es : List (ℕ × PlainProgress)) (i id : ℕ) (e : ℕ × PlainProgress) → slice_get es i ≡ Some e → id ≤ e.0 → rank (drop i (keys_of es)) id ≡ 0
rank_here es i id e h higher = rw (drop_more_some (keys_of es) i e.0 (key_at es i e h), le-ltb e.0 id higher) refl

-- the order of the views

key_lacks : (b : Bool) (x : PlainProgress) (rest : Option PlainProgress) → is_some (cond b (Some x) rest) ≡ false → (b ≡ false) × (is_some rest ≡ false)
key_lacks true x rest h = cc
key_lacks false x rest h = (refl, h)

-- an id without a view isn't among the ids with one
has_no_key : (es : List (ℕ × PlainProgress)) (k : ℕ) → is_some (lookup (nat_eq k) es) ≡ false → has (keys_of es) k ≡ false
has_no_key [] k h = refl
has_no_key (e ∷ es) k h =
    let lacks = key_lacks (nat_eq k e.0) e.1 (lookup (nat_eq k) es) h in
    let apart : (e.0 == k) ≡ false = nat_eq_equiv.symm e.0 k ∙ lacks.0 in
    rw apart (has_no_key es k lacks.1)

keys_put : (es : List (ℕ × PlainProgress)) (k r : ℕ) (v : PlainProgress) → keys_of (insert es r (k, v)) ≡ insert (keys_of es) r k
keys_put es k r v = simp (map-append, take-map, drop-map)

pub put_in_order : (t : PlainTracker) (id : ℕ) (view : PlainProgress) → AreInOrder t.views → has_view t.views id ≡ false → AreInOrder (with_new t id view).views
put_in_order t id view up none =
    rw (keys_put t.views id (rank (keys_of t.views) id) view, insert_is_with_id (keys_of t.views) id (has_no_key t.views id none)) (ascending_with_id (keys_of t.views) id up)

above_removed : (k low : ℕ) (es : List (ℕ × PlainProgress)) → AreAbove low (keys_of es) → AreAbove low (keys_of (remove_entry (nat_eq k) es))
above_removed k low [] above = tt
above_removed k low (e ∷ es) above =
    let P : List (ℕ × PlainProgress) → Type 0 = λ l. AreAbove low (keys_of l) in
    if_both P (nat_eq k e.0) es (e ∷ remove_entry (nat_eq k) es) (λ _. above.1) (λ _. (above.0, above_removed k low es above.1))

pub removed_in_order : (k : ℕ) (es : List (ℕ × PlainProgress)) → AreInOrder es → AreInOrder (remove_entry (nat_eq k) es)
removed_in_order k [] up = tt
removed_in_order k (e ∷ es) up =
    if_both AreInOrder (nat_eq k e.0) es (e ∷ remove_entry (nat_eq k) es) (λ _. up.1) (λ _. (above_removed k e.0 es up.0, removed_in_order k es up.1))

keys_set : (es : List (ℕ × PlainProgress)) (i : ℕ) (v : PlainProgress) → keys_of (set_value_at es i v) ≡ keys_of es
keys_set [] i v = refl
keys_set (e ∷ es) zero v = refl
keys_set (e ∷ es) (suc i) v = ap (λ l. e.0 ∷ l) (keys_set es i v)

pub set_in_order : (es : List (ℕ × PlainProgress)) (i : ℕ) (v : PlainProgress) → AreInOrder es → AreInOrder (set_value_at es i v)
set_in_order es i v up = rw (keys_set es i v) up
