-- Lemmas on marks
use Rattle.std.proofs.Common.{◌≡◌, ℕ, zero, suc, ◌+◌, ◌<◌, Bool, true, false, List, [], ◌∷◌, ◌++◌, length, take, drop, map, slice_get, Option, Some, None, refl, ap, ◌∙◌, add-one, arith, ◌==◌, if◌then◌else◌}
use Rattle.std.specs.Option.{option_map}
use Rattle.std.proofs.lemmas.List.{length-map}
use Rattle.std.proofs.lemmas.Option.{slice_get-map}
use Rattle.indexmap.specs.Layout.{set_value_at}
use Rattle.rb_tracker.specs.Progresses.{PlainProgress, with_active}
use Rattle.std.specs.Map.{keys_of}
use Rattle.rb_tracker.specs.Trackers.{PlainTracker, view_at, AreInOrder}
use Rattle.rb_tracker.proofs.SetLaws.{if_both}
use Rattle.rb_tracker.specs.Active.{inactive_unless_own, inactive_with, inactive_at, others_marked_inactive}

-- the view of an entry at a place is the view at that place
pub view_of_entry : (es : List (ℕ × PlainProgress)) (i : ℕ) (e : ℕ × PlainProgress) → slice_get es i ≡ Some e → view_at es i ≡ Some e.1
view_of_entry es i e h = slice_get-map (λ f. f.1) es i ∙ ap (option_map (λ f. f.1)) h

if_into : {X Y : Type 0} (f : X → Y) (b : Bool) (x y : X) → (if b then f x else f y) ≡ f (if b then x else y)
if_into f true x y = refl
if_into f false x y = refl

later_step : (o : Option (ℕ × PlainProgress)) (f : ℕ × PlainProgress) (es : List (ℕ × PlainProgress)) (i own : ℕ) → inactive_with o (f ∷ es) (suc i) own ≡ f ∷ inactive_with o es i own
later_step None f es i own = refl
later_step (Some e) f es i own = if_into (λ l. f ∷ l) (e.0 == own) es (set_value_at es i (with_active e.1 false))

unmark_suc : (own : ℕ) (es : List (ℕ × PlainProgress)) (i : ℕ) → i < length es → inactive_at (map (inactive_unless_own own) (take i es) ++ drop i es) i own ≡ map (inactive_unless_own own) (take (suc i) es) ++ drop (suc i) es
unmark_suc own [] i h = absurd (omega arith)
unmark_suc own (e ∷ es) zero h = if_into (λ x. x ∷ es) (e.0 == own) e (e.0, with_active e.1 false)
unmark_suc own (e ∷ es) (suc i) h =
    let rest = map (inactive_unless_own own) (take i es) ++ drop i es in
    later_step (slice_get rest i) (inactive_unless_own own e) rest i own ∙ ap (λ l. inactive_unless_own own e ∷ l) (unmark_suc own es i (omega arith))

-- one more mark off
pub unmark_more : (own : ℕ) (es : List (ℕ × PlainProgress)) (i : ℕ) → i < length es → inactive_at (map (inactive_unless_own own) (take i es) ++ drop i es) i own ≡ map (inactive_unless_own own) (take (i + 1) es) ++ drop (i + 1) es
unmark_more own es i h = rw add-one (unmark_suc own es i h)

same_key : (own : ℕ) (e : ℕ × PlainProgress) → (inactive_unless_own own e).0 ≡ e.0
same_key own e = if_both (λ (x : ℕ × PlainProgress). x.0 ≡ e.0) (e.0 == own) e (e.0, with_active e.1 false) (λ _. refl) (λ _. refl)

keys_unmarked : (own : ℕ) (es : List (ℕ × PlainProgress)) → keys_of (map (inactive_unless_own own) es) ≡ keys_of es
keys_unmarked own [] = refl
keys_unmarked own (e ∷ es) = rw (keys_unmarked own es, same_key own e) refl

pub unmarked_in_order : (t : PlainTracker) (own : ℕ) → AreInOrder t.views → AreInOrder (others_marked_inactive t own).views
unfolding others_marked_inactive
unmarked_in_order t own up = rw (keys_unmarked own t.views) up

pub unmarked_length : (t : PlainTracker) (own : ℕ) → length (others_marked_inactive t own).views ≡ length t.views
unfolding others_marked_inactive
unmarked_length t own = length-map t.views (inactive_unless_own own)
