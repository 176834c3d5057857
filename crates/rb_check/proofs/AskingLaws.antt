-- What goes out as a review asks, one question after another.
use Rattle.std.proofs.Common.{◌≡◌, ◌∙◌, ℕ, ◌+◌, ◌≤◌, List, [], ◌∷◌, ◌++◌, length, take, Option, Some, refl, ap, sym, subst, append_assoc, append-nil, arith}
use Rattle.std.specs.Prelude.{slice_get}
use Rattle.std.specs.List.{flat_map}
use Rattle.std.proofs.lemmas.Grind.{flat_map-append}
use Rattle.std.proofs.lemmas.List.{length-take-le, take_all}
use Rattle.std.proofs.lemmas.Option.{slice_get_within}
use Rattle.rb_script.proofs.ListLaws.{take_there}
use Rattle.rb_check.specs.declared.question.ReviewQuestion.{ReviewQuestion}
use Rattle.rb_check.specs.declared.review.Review.{Review}
use Rattle.rb_check.specs.declared.review.Review.TheVariants as reviews
use Rattle.rb_check.specs.Asking.{AreAsked, AreReviewed, IsAskedAt, asked_of, echo_of, help_text, missed_text}
use Rattle.rb_check.specs.Reviews.{review_behind}
use Rattle.rb_check.specs.Subjects.{PlainChecked}

-- ---- a question

-- one answer more that was none
pub asked_again : (question : List ℕ) (missed : List (Option (List ℕ))) (keys : Option (List ℕ)) → flat_map (missed_text question) missed ++ ((question ++ echo_of keys) ++ help_text) ≡ flat_map (missed_text question) (missed ++ keys ∷ [])
asked_again question missed keys =
    let so_far = flat_map (missed_text question) missed in
    ap (λ (l : List ℕ). so_far ++ l) (append_assoc question (echo_of keys) help_text)
    ∙ sym (flat_map-append (missed_text question) missed (keys ∷ []) ∙ ap (λ (l : List ℕ). so_far ++ l) (append-nil (missed_text question keys)))

-- ---- several questions

pub none_asked : (c : PlainChecked) (count n : ℕ) → AreAsked c count n [] []
unfolding AreAsked
none_asked c count n = refl

pub one_asked : (c : PlainChecked) (count n : ℕ) (question : ReviewQuestion) (text : List ℕ) → IsAskedAt c count n question text → AreAsked c count n (question ∷ []) text
unfolding AreAsked
one_asked c count n question text one = (text, [], one, refl, sym (append-nil text))

asked_both : (c : PlainChecked) (count n : ℕ) (these those : List ReviewQuestion) (t u : List ℕ) → AreAsked c count n these t → AreAsked c count (n + length these) those u → AreAsked c count n (these ++ those) (t ++ u)
unfolding AreAsked
asked_both c count n [] those t u none more = subst (λ (l : List ℕ). AreAsked c count n those (l ++ u)) (sym none) (subst (λ (k : ℕ). AreAsked c count k those u) (omega arith) more)
asked_both c count n (question ∷ these) those t u some more =
    let on : AreAsked c count (n + 1 + length these) those u = subst (λ (k : ℕ). AreAsked c count k those u) (omega arith) more in
    let others = some.1 in
    (some.0, others ++ u, some.2, asked_both c count (n + 1) these those others u some.3 on, ap (λ (l : List ℕ). l ++ u) some.4 ∙ append_assoc some.0 others u)

-- ---- a review as far as it has come

-- the first of the questions are asked, or passed over: once one is passed over none is asked
pub record Gone (c : PlainChecked) (questions : List ReviewQuestion) (before now : Review) (i : ℕ) (text : List ℕ) : Type 0 where
  pub asked : List ReviewQuestion
  pub passed : List ReviewQuestion
  pub parts : take i questions ≡ asked ++ passed
  pub each : now ≡ reviews.Each → passed ≡ []
  pub over : before ≡ reviews.Over → now ≡ reviews.Over
  pub none : before ≡ reviews.Over → asked ≡ []
  pub are_asked : AreAsked c (length questions) 1 asked text

pub none_gone : (c : PlainChecked) (questions : List ReviewQuestion) (before : Review) → Gone c questions before before 0 []
none_gone c questions before = record { asked = []; passed = []; parts = refl; each = λ e. refl; over = λ e. e; none = λ e. refl; are_asked = none_asked c (length questions) 1 }

module _ (c : PlainChecked) (questions : List ReviewQuestion) (before : Review) (i : ℕ) (question : ReviewQuestion) (so_far text : List ℕ) where
  -- it is asked
  asked_next : (next : Review) → Gone c questions before reviews.Each i so_far → slice_get questions i ≡ Some question → (before ≡ reviews.Over → next ≡ reviews.Over) → AreAsked c (length questions) (i + 1) (question ∷ []) text
      → Gone c questions before next (i + 1) (so_far ++ text)
  asked_next next had got over asked =
      let whole : take i questions ≡ had.asked = had.parts ∙ ap (λ (l : List ReviewQuestion). had.asked ++ l) (had.each refl) ∙ append-nil had.asked in
      let number : i + 1 ≡ 1 + length had.asked = omega (arith, ap (λ (l : List ReviewQuestion). length l) whole, length-take-le i questions (omega (arith, slice_get_within questions i question got))) in
      record {
        asked = had.asked ++ question ∷ [];
        passed = [];
        parts = take_there questions i question got ∙ ap (λ (l : List ReviewQuestion). l ++ question ∷ []) whole ∙ sym (append-nil (had.asked ++ question ∷ []));
        each = λ e. refl;
        over = over;
        none = λ e. let no : reviews.Each ≡ reviews.Over = had.over e in absurd cc;
        are_asked = asked_both c (length questions) 1 had.asked (question ∷ []) so_far text had.are_asked (subst (λ (n : ℕ). AreAsked c (length questions) n (question ∷ []) text) number asked);
      }

  -- it is passed over
  passed_next : (now next : Review) → Gone c questions before now i so_far → slice_get questions i ≡ Some question → (before ≡ reviews.Over → next ≡ reviews.Over) → (next ≡ reviews.Each → ⊥) → AreAsked c (length questions) (i + 1) [] text
      → Gone c questions before next (i + 1) (so_far ++ text)
  unfolding AreAsked
  passed_next now next had got over passes none = record {
    asked = had.asked;
    passed = had.passed ++ question ∷ [];
    parts = take_there questions i question got ∙ ap (λ (l : List ReviewQuestion). l ++ question ∷ []) had.parts ∙ append_assoc had.asked had.passed (question ∷ []);
    each = λ e. absurd (passes e);
    over = over;
    none = had.none;
    are_asked = subst (λ (l : List ℕ). AreAsked c (length questions) 1 had.asked l) (sym (append-nil so_far) ∙ sym (ap (λ (l : List ℕ). so_far ++ l) none)) had.are_asked;
  }

  pub gone_on : (now next : Review) → Gone c questions before now i so_far → slice_get questions i ≡ Some question → (next ≡ reviews.Each → now ≡ reviews.Each) → (now ≡ reviews.Over → next ≡ reviews.Over)
      → AreAsked c (length questions) (i + 1) (asked_of now question) text → Gone c questions before next (i + 1) (so_far ++ text)
  gone_on reviews.Each next had got each over asked = asked_next next had got (λ e. over (had.over e)) asked
  gone_on reviews.Rest next had got each over asked = passed_next reviews.Rest next had got (λ e. over (had.over e)) (λ e. let no : reviews.Rest ≡ reviews.Each = each e in absurd cc) asked
  gone_on reviews.Skipped next had got each over asked = passed_next reviews.Skipped next had got (λ e. over (had.over e)) (λ e. let no : reviews.Skipped ≡ reviews.Each = each e in absurd cc) asked
  gone_on reviews.Over next had got each over asked = passed_next reviews.Over next had got (λ e. over (had.over e)) (λ e. let no : reviews.Over ≡ reviews.Each = each e in absurd cc) asked

pub gone_all : (c : PlainChecked) (questions : List ReviewQuestion) (before after : Review) (i : ℕ) (text : List ℕ) → Gone c questions before after i text → length questions ≤ i → AreReviewed c questions before after text
gone_all c questions before after i text gone past =
    record { asked = gone.asked; unasked = gone.passed; parts = sym (take_all i questions past) ∙ gone.parts; all = gone.each; none = gone.none; are_asked = gone.are_asked }

-- what was asked before ends with the script before
pub from_before : (c : PlainChecked) (questions : List ReviewQuestion) (before after : Review) (text : List ℕ) → AreReviewed c questions (review_behind before) after text → AreReviewed c questions before after text
from_before c questions before after text are = record { asked = are.asked; unasked = are.unasked; parts = are.parts; all = are.all; none = λ is. are.none (ap review_behind is); are_asked = are.are_asked }
