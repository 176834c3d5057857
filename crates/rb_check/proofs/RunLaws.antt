-- The directives of a script that ran, one after another.
use Rattle.std.proofs.Common.{◌≡◌, ◌∙◌, ℕ, zero, suc, ◌+◌, ◌<◌, ◌≤◌, Bool, true, false, List, [], ◌∷◌, ◌++◌, length, drop, Some, ap, subst, zero-add, arith}
use Rattle.std.specs.Prelude.{◌||◌, if◌then◌else◌, not, slice_get}
use Rattle.std.specs.List.{flat_map}
use Rattle.std.proofs.lemmas.List.{drop_all}
use Rattle.std.proofs.lemmas.Option.{same_Some}
use Rattle.rb_script.specs.Lines.{Line}
use Rattle.rb_script.specs.Script.{PlainBlock}
use Rattle.rb_replay.specs.Report.{same_lines}
use Rattle.rb_replay.specs.Run.{outputs}
use Rattle.rb_script_report.specs.declared.accept_options.AcceptFilter.{AcceptFilter}
use Rattle.rb_script_report.specs.Accepting.{is_picked}
use Rattle.rb_script_report.specs.Errors.{is_unexpected}
use Rattle.rb_script_report.proofs.EachLaws.{done, more}
use Rattle.rb_text.proofs.SentLaws.{drop-get}
use Rattle.rb_check.specs.declared.check_request.CheckRequest.{CheckRequest}
use Rattle.rb_check.specs.declared.question.ReviewQuestion.{ReviewQuestion}
use Rattle.rb_check.specs.Reviews.{AreWithin, question_of, questions_of}
use Rattle.rb_check.specs.Subjects.{PlainChecked, ran_at, runs_from, runs_of}

pub run_at : (whys : List (List Line)) (k i : ℕ) (heads : List ℕ) (bs : List PlainBlock) (os : List (List Line)) (line : ℕ) (b : PlainBlock) (o : List Line)
    → slice_get heads i ≡ Some line → slice_get bs i ≡ Some b → slice_get os i ≡ Some o → slice_get (runs_from whys k heads bs os) i ≡ Some (ran_at whys (k + i) line b o)
run_at whys k i [] bs os line b o head block output = absurd cc
run_at whys k i (n ∷ heads) [] os line b o head block output = absurd cc
run_at whys k i (n ∷ heads) (c ∷ bs) [] line b o head block output = absurd cc
run_at whys k zero (n ∷ heads) (c ∷ bs) (p ∷ os) line b o head block output =
    let here : k ≡ k + 0 = omega arith in
    ap (λ (l : ℕ). Some (ran_at whys k l c p)) (same_Some n line head) ∙ ap (λ (d : PlainBlock). Some (ran_at whys k line d p)) (same_Some c b block)
    ∙ ap (λ (q : List Line). Some (ran_at whys k line b q)) (same_Some p o output) ∙ ap (λ (j : ℕ). Some (ran_at whys j line b o)) here
run_at whys k (suc i) (n ∷ heads) (c ∷ bs) (p ∷ os) line b o head block output =
    let there : k + 1 + i ≡ k + suc i = omega arith in
    run_at whys (k + 1) i heads bs os line b o head block output ∙ ap (λ (j : ℕ). Some (ran_at whys j line b o)) there

runs_few : (whys : List (List Line)) (k : ℕ) (heads : List ℕ) (bs : List PlainBlock) (os : List (List Line)) → length (runs_from whys k heads bs os) ≤ length bs
runs_few whys k [] bs os = omega arith
runs_few whys k (n ∷ heads) [] os = omega arith
runs_few whys k (n ∷ heads) (b ∷ bs) [] = omega arith
runs_few whys k (n ∷ heads) (b ∷ bs) (o ∷ os) = omega (arith, runs_few whys (k + 1) heads bs os)

-- ---- what each gives

-- one more
pub each_more : {X A : Type 0} (one : X → List A) (xs : List X) (i : ℕ) (x : X) (had has all : List A) → slice_get xs i ≡ Some x → has ≡ had ++ one x → had ++ flat_map one (drop i xs) ≡ all → has ++ flat_map one (drop (i + 1) xs) ≡ all
each_more one xs i x had has all got is so_far = more had (one x) (flat_map one (drop (i + 1) xs)) (flat_map one (drop i xs)) has all is (ap (flat_map one) (drop-get xs i x got)) so_far

-- all
pub each_all : {X A : Type 0} (one : X → List A) (xs : List X) (i : ℕ) (has all : List A) → length xs ≤ i → has ++ flat_map one (drop i xs) ≡ all → has ≡ all
each_all one xs i has all past so_far = done has (flat_map one (drop i xs)) all (ap (flat_map one) (drop_all i xs past)) so_far

pub runs_end : (c : PlainChecked) (i : ℕ) → length c.script.blocks ≤ i → length (runs_of c) ≤ i
runs_end c i past = omega (arith, past, runs_few c.whys 0 c.layout.heads.items c.script.blocks (outputs c.script))

-- ---- the questions about them

one_within : (none : Bool) (first question : ReviewQuestion) (rest : List ReviewQuestion) (i n : ℕ) → first.index < n → AreWithin rest n → slice_get ((if none then [] else first ∷ []) ++ rest) i ≡ Some question → question.index < n
one_within true first question rest i n here later got = later i question got
one_within false first question rest zero n here later got = subst (λ (q : ReviewQuestion). q.index < n) (same_Some first question got) here
one_within false first question rest (suc i) n here later got = later i question got

within_from : (errors : Bool) (picked : AcceptFilter) (ls : List Line) (whys : List (List Line)) (k : ℕ) (heads : List ℕ) (bs : List PlainBlock) (os : List (List Line))
    → AreWithin (flat_map (question_of errors picked ls) (runs_from whys k heads bs os)) (k + length bs)
within_from errors picked ls whys k [] bs os i question got = absurd cc
within_from errors picked ls whys k (n ∷ heads) [] os i question got = absurd cc
within_from errors picked ls whys k (n ∷ heads) (b ∷ bs) [] i question got = absurd cc
within_from errors picked ls whys k (n ∷ heads) (b ∷ bs) (o ∷ os) i question got =
    let here : k < k + length (b ∷ bs) = omega arith in
    let same : k + 1 + length bs ≡ k + length (b ∷ bs) = omega arith in
    let rest = flat_map (question_of errors picked ls) (runs_from whys (k + 1) heads bs os) in
    one_within (same_lines b.expected o || not (is_picked picked n)) (record { index = k; head = n; is_taken = errors || not (is_unexpected ls n o) }) question rest i (k + length (b ∷ bs)) here
    (subst (λ (end : ℕ). AreWithin rest end) same (within_from errors picked ls whys (k + 1) heads bs os)) got

pub questions_within : (asked : CheckRequest) (picked : AcceptFilter) (c : PlainChecked) → AreWithin (questions_of asked picked c) (length c.script.blocks)
questions_within asked picked c =
    subst (λ (n : ℕ). AreWithin (questions_of asked picked c) n) (zero-add (length c.script.blocks)) (within_from asked.accepts_errors picked c.layout.text c.whys 0 c.layout.heads.items c.script.blocks (outputs c.script))
