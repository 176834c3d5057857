-- Nodes that are compared one by one.
use Rattle.std.proofs.Common.{◌≡◌, ◌∙◌, ℕ, ◌+◌, ◌≤◌, Bool, true, false, List, [], ◌∷◌, ◌++◌, length, drop, Option, Some, None, refl, ap, ap₂, sym, arith, append-nil, inl, inr}
use Rattle.std.specs.Prelude.{slice_get}
use Rattle.std.proofs.lemmas.List.{drop_all}
use Rattle.std.proofs.lemmas.Option.{slice_get_cases}
use Rattle.rb_node.specs.Node.{PlainNode}
use Rattle.rb_script.specs.Lines.{Line}
use Rattle.rb_view.specs.Kept.{texts_of}
use Rattle.rb_view.specs.Rows.{Row}
use Rattle.rb_view.proofs.KeptLaws.{left_some}
use Rattle.rb_view.specs.Committed.{IsKept, known}
use Rattle.rb_view.specs.Logs.{stays, stays_since}
use Rattle.rb_view.specs.States.{changed_rows, changed_since, changed_to, node_rows, node_since, state_rows}
use Rattle.rb_view.proofs.ChangeLaws.{no_row}
use Rattle.rb_view.proofs.LogLaws.{since_known, since_nothing}

past_all : {X : Type 0} → (xs : List X) (i : ℕ) → slice_get xs i ≡ None → length xs ≤ i
past_all xs i h = elim (slice_get_cases xs i).1 [ inl w ↦ absurd (let none : slice_get xs i ≡ None = h in let some : slice_get xs i ≡ Some w.0 = w.2 in cc) | inr w ↦ w.0 ]

-- one node more
pub state_more : (olds news : List PlainNode) (i : ℕ) (n : PlainNode) (old : Option PlainNode) → slice_get news i ≡ Some n → old ≡ slice_get olds i
    → state_rows (drop i olds) (drop i news) ≡ node_rows old n ++ state_rows (drop (i + 1) olds) (drop (i + 1) news)
state_more olds news i n None here was =
    let past : length olds ≤ i = past_all olds i (sym was) in
    ap₂ state_rows (drop_all i olds past) (left_some news i n here) ∙ ap (λ (os : List PlainNode). node_rows None n ++ state_rows os (drop (i + 1) news)) (sym (drop_all (i + 1) olds (omega (arith, past))))
state_more olds news i n (Some old) here was = ap₂ state_rows (left_some olds i old (sym was)) (left_some news i n here)

pub state_done : (olds news : List PlainNode) → news ≡ [] → state_rows olds news ≡ []
state_done [] [] e = refl
state_done (old ∷ olds) [] e = refl
state_done olds (n ∷ ns) e = absurd cc

-- ---- where what a node knew to be committed stays

changed_by : (index : ℕ) (old new : PlainNode) → stays_since old.log new.log index ≡ stays old.log new.log → changed_since index old new ≡ changed_rows old new
changed_by index old new same = ap (changed_to old new) same

pub since_is : (keeps : Bool) (o : Option PlainNode) (n : PlainNode) → (keeps ≡ true → (old : PlainNode) → o ≡ Some old → IsKept old.log n.log old.commit)
    → node_since keeps o n ≡ node_rows o n
since_is keeps None n kept = refl
since_is true (Some old) n kept = let k = kept refl old refl in changed_by old.commit old n (since_known old.log n.log old.commit k.base k.entries)
since_is false (Some old) n kept = changed_by 0 old n (since_nothing old.log n.log)

-- nothing is added of a node that is as it was
pub none_kept_of_same : (index : ℕ) (old new : PlainNode) (texts : List Line) → new ≡ old → texts ≡ texts ++ texts_of (changed_since index old new)
none_kept_of_same index old new texts e =
    let own : stays_since old.log old.log index ≡ stays old.log old.log = since_known old.log old.log index (omega arith) (λ i _ _. refl) in
    sym (ap (λ (rs : List Row). texts ++ texts_of rs) (ap (λ (n : PlainNode). changed_since index old n) e ∙ (changed_by index old old own ∙ no_row old)) ∙ append-nil texts)
