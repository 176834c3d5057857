-- Directives one after another: what they gave so far, and what is still to come.
use Rattle.std.proofs.Common.{◌≡◌, ◌∙◌, ℕ, ◌+◌, ◌≤◌, List, [], ◌∷◌, ◌++◌, length, drop, Some, refl, ap, sym, append_assoc, append-nil}
use Rattle.std.specs.Prelude.{slice_get}
use Rattle.std.proofs.lemmas.List.{drop_all}
use Rattle.rb_script.specs.Lines.{Line}
use Rattle.rb_script.specs.Script.{PlainBlock}
use Rattle.rb_text.proofs.SentLaws.{drop-get}
use Rattle.rb_script_report.specs.Checked.{of_each}

-- ---- of any list

-- one piece more, of what is still to come
pub more : {A : Type 0} (had here rest left has all : List A) → has ≡ had ++ here → left ≡ here ++ rest → had ++ left ≡ all → has ++ rest ≡ all
more {A} had here rest left has all is next so_far = ap (λ (xs : List A). xs ++ rest) is ∙ append_assoc had here rest ∙ sym (ap (λ (xs : List A). had ++ xs) next) ∙ so_far

-- nothing is still to come
pub done : {A : Type 0} (has left all : List A) → left ≡ [] → has ++ left ≡ all → has ≡ all
done {A} has left all none so_far = sym (append-nil has) ∙ sym (ap (λ (xs : List A). has ++ xs) none) ∙ so_far

-- ---- of each directive

pub each_step : {A : Type 0} (one : ℕ → PlainBlock → List Line → List A) (heads : List ℕ) (bs : List PlainBlock) (os : List (List Line)) (i line : ℕ) (b : PlainBlock) (o : List Line)
    → slice_get heads i ≡ Some line → slice_get bs i ≡ Some b → slice_get os i ≡ Some o
    → of_each one (drop i heads) (drop i bs) (drop i os) ≡ one line b o ++ of_each one (drop (i + 1) heads) (drop (i + 1) bs) (drop (i + 1) os)
each_step one heads bs os i line b o head block output =
    ap (λ (ns : List ℕ). of_each one ns (drop i bs) (drop i os)) (drop-get heads i line head)
    ∙ ap (λ (cs : List PlainBlock). of_each one (line ∷ drop (i + 1) heads) cs (drop i os)) (drop-get bs i b block)
    ∙ ap (λ (outs : List (List Line)). of_each one (line ∷ drop (i + 1) heads) (b ∷ drop (i + 1) bs) outs) (drop-get os i o output)

pub each_done : {A : Type 0} (one : ℕ → PlainBlock → List Line → List A) (heads : List ℕ) (bs : List PlainBlock) (os : List (List Line)) (i : ℕ) → length bs ≤ i → of_each one (drop i heads) (drop i bs) (drop i os) ≡ []
each_done one heads bs os i past = none_left one (drop i heads) (drop i bs) (drop i os) (drop_all i bs past)
  where
    none_left : {A : Type 0} (one : ℕ → PlainBlock → List Line → List A) (heads : List ℕ) (bs : List PlainBlock) (os : List (List Line)) → bs ≡ [] → of_each one heads bs os ≡ []
    none_left one [] bs os none = refl
    none_left one (line ∷ heads) [] os none = refl
    none_left one (line ∷ heads) (b ∷ bs) os none = absurd cc

pub each_more : {A : Type 0} (one : ℕ → PlainBlock → List Line → List A) (heads : List ℕ) (bs : List PlainBlock) (os : List (List Line)) (i line : ℕ) (b : PlainBlock) (o : List Line) (had has all : List A)
    → slice_get heads i ≡ Some line → slice_get bs i ≡ Some b → slice_get os i ≡ Some o → has ≡ had ++ one line b o
    → had ++ of_each one (drop i heads) (drop i bs) (drop i os) ≡ all → has ++ of_each one (drop (i + 1) heads) (drop (i + 1) bs) (drop (i + 1) os) ≡ all
each_more one heads bs os i line b o had has all head block output is so_far =
    more had (one line b o) (of_each one (drop (i + 1) heads) (drop (i + 1) bs) (drop (i + 1) os)) (of_each one (drop i heads) (drop i bs) (drop i os)) has all is (each_step one heads bs os i line b o head block output) so_far

pub each_all : {A : Type 0} (one : ℕ → PlainBlock → List Line → List A) (heads : List ℕ) (bs : List PlainBlock) (os : List (List Line)) (i : ℕ) (has all : List A) → length bs ≤ i
    → has ++ of_each one (drop i heads) (drop i bs) (drop i os) ≡ all → has ≡ all
each_all one heads bs os i has all past so_far = done has (of_each one (drop i heads) (drop i bs) (drop i os)) all (each_done one heads bs os i past) so_far
