-- Reviews: what comes, one thing after another, and questions, one after another.
use Rattle.std.proofs.Common.{◌≡◌, ◌∙◌, ℕ, ◌+◌, List, [], ◌∷◌, length, take, Some, Result, Ok, Err, refl, ap, sym, arith}
use Rattle.std.specs.Prelude.{IfOk, IsErr, slice_get}
use Rattle.std.proofs.lemmas.List.Sums.{fold-append}
use Rattle.rb_script.proofs.ListLaws.{take_there}
use Rattle.rb_check.specs.declared.answer.HeardAnswer.{HeardAnswer}
use Rattle.rb_check.specs.declared.answer.HeardAnswer.TheVariants as heard
use Rattle.rb_check.specs.declared.question.ReviewQuestion.{ReviewQuestion}
use Rattle.rb_check.specs.Reviews.{Hears, Reviewing, answered, after_answer, first_heard, rest_heard, reviewed_all, reviewed_one}

-- ---- what comes

-- what is no answer is passed over
pub else_answered : (ls : List HeardAnswer) → first_heard ls ≡ heard.Else → answered (rest_heard ls) ≡ answered ls
else_answered [] h = absurd cc
else_answered (heard.Answer a ∷ more) h = absurd cc
else_answered (heard.Else ∷ more) h = refl
else_answered (heard.End ∷ more) h = absurd cc

pub else_after : (ls : List HeardAnswer) → first_heard ls ≡ heard.Else → after_answer (rest_heard ls) ≡ after_answer ls
else_after [] h = absurd cc
else_after (heard.Answer a ∷ more) h = absurd cc
else_after (heard.Else ∷ more) h = refl
else_after (heard.End ∷ more) h = absurd cc

pub else_length : (ls : List HeardAnswer) → first_heard ls ≡ heard.Else → length (rest_heard ls) + 1 ≡ length ls
else_length [] h = absurd cc
else_length (heard.Answer a ∷ more) h = absurd cc
else_length (heard.Else ∷ more) h = omega arith
else_length (heard.End ∷ more) h = absurd cc

-- ---- a person

module _ {P : Type 0} (is_known : P → Type 0) (left : P → List HeardAnswer) where
  pub hears_on : (one two three : P) (first second both : Type 0) → Hears is_known left one two first → Hears is_known left two three second → (first → second → both) → Hears is_known left one three both
  hears_on one two three first second both here then so = record {
    known = λ k. then.known (here.known k);
    few = λ k f. omega (arith, here.few k f, then.few (here.known k) (omega (arith, f, here.few k f)));
    so = λ k f. so (here.so k f) (then.so (here.known k) (omega (arith, f, here.few k f)));
  }

-- nothing is said of what fails
pub never_ok : {X E : Type 0} (P : X → Type 0) (r : Result X E) → IsErr r → IfOk r P
never_ok P (Ok x) is = absurd cc
never_ok P (Err e) is = tt

-- ---- questions

-- one question more
pub reviewed_more : (r now next : Reviewing) (questions : List ReviewQuestion) (i : ℕ) (question : ReviewQuestion) → slice_get questions i ≡ Some question → now ≡ reviewed_all r (take i questions) → next ≡ reviewed_one now question
    → next ≡ reviewed_all r (take (i + 1) questions)
reviewed_more r now next questions i question got so_far one =
    one ∙ ap (λ (s : Reviewing). reviewed_one s question) so_far
    ∙ sym (ap (reviewed_all r) (take_there questions i question got) ∙ fold-append reviewed_one r (take i questions) (question ∷ []))
