-- What goes out as a review asks about the outputs of a script. (This project's.)
use Rattle.std.specs.Prelude.{◌≡◌, ℕ, ◌+◌, ◌-◌, ◌^◌, false, List, [], ◌∷◌, ◌++◌, Option, Some, None, codes, length}
use Rattle.std.specs.List.{flat_map}
use Rattle.rb_report.specs.declared.check.table.TheConstants.{MAX_SCRIPT_CELLS}
use Rattle.rb_script_report.specs.Whys.{told_alone}
use Rattle.rb_check.specs.declared.question.ReviewQuestion.{ReviewQuestion}
use Rattle.rb_check.specs.declared.review.Review.{Review}
use Rattle.rb_check.specs.declared.review.Review.TheVariants as reviews
use Rattle.rb_check.specs.Reviews.{comment_text, question_text, visible_key}
use Rattle.rb_check.specs.Subjects.{PlainChecked}

-- ---- one question

abbrev pub help_text : List ℕ
help_text = codes "y  accepts this output\nn  leaves what is expected\na  accepts this one and all that follow in this script, but new errors; with --accept-errors these too\ns  leaves this one and all that follow in this script\nq  leaves this one and all that follow, and ends\n?  shows this\n"

-- a terminal that gives each key shows neither the key nor an end of the line, so both are written
abbrev pub echo_of : Option (List ℕ) → List ℕ
echo_of None = []
echo_of (Some keys) = visible_key keys ++ codes "\n"

-- the help after what was no answer, and before the question is asked again
abbrev pub missed_text : List ℕ → Option (List ℕ) → List ℕ
missed_text question keys = question ++ (echo_of keys ++ help_text)

-- a question is asked until it is answered, at most 2^64 - 1 times
pub data IsAsked (question text : List ℕ) : Type 0 where
  answered : (missed : List (Option (List ℕ))) → (last : Option (List ℕ)) → text ≡ flat_map (missed_text question) missed ++ (question ++ echo_of last) → IsAsked question text
  given_up : (missed : List (Option (List ℕ))) → length missed ≡ 2 ^ 64 - 1 → text ≡ flat_map (missed_text question) missed → IsAsked question text

-- ---- the questions of a script

-- what is shown before a question: the comment above the head, and what differs
abbrev pub subject_text : PlainChecked → ReviewQuestion → List ℕ
subject_text c question =
    comment_text c.layout.text question.head ++ told_alone MAX_SCRIPT_CELLS false c.colors c.layout.text c.path c.whys c.layout.heads.items c.script (question.index + 1)

-- a question: its number, and how many there are
pub record IsAskedAt (c : PlainChecked) (count number : ℕ) (question : ReviewQuestion) (text : List ℕ) : Type 0 where
  pub asking : List ℕ
  pub asked : IsAsked (question_text number count) asking
  pub text_is : text ≡ subject_text c question ++ asking

-- one after another, with numbers from the first on
unfoldable pub AreAsked : PlainChecked → ℕ → ℕ → List ReviewQuestion → List ℕ → Type 0
AreAsked c count number [] text = text ≡ []
AreAsked c count number (question ∷ questions) text = (first : List ℕ) × (others : List ℕ) × IsAskedAt c count number question first × AreAsked c count (number + 1) questions others × (text ≡ first ++ others)

-- in order, until an answer ends that; none once the review is over
pub record AreReviewed (c : PlainChecked) (questions : List ReviewQuestion) (before after : Review) (text : List ℕ) : Type 0 where
  pub asked : List ReviewQuestion
  pub unasked : List ReviewQuestion
  pub parts : questions ≡ asked ++ unasked
  pub all : after ≡ reviews.Each → unasked ≡ []
  pub none : before ≡ reviews.Over → asked ≡ []
  pub are_asked : AreAsked c (length questions) 1 asked text

-- a question, if it is still to be asked
abbrev pub asked_of : Review → ReviewQuestion → List ReviewQuestion
asked_of reviews.Each question = question ∷ []
asked_of reviews.Rest question = []
asked_of reviews.Skipped question = []
asked_of reviews.Over question = []
