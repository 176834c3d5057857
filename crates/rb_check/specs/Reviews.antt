-- A review: what is asked about, what answers mean, and what is accepted by the lines that are read. (This project's.)
use Rattle.std.specs.Prelude.{◌≡◌, ℕ, zero, suc, ◌<◌, ◌≤◌, ◌^◌, ◌==◌, ◌||◌, ◌&&◌, ◌-◌, Bool, not, if◌then◌else◌, List, [], ◌∷◌, ◌++◌, Option, Some, None, codes, decimal, drop, length, min, nat_lt, slice_get, slice_index_or, take}
use Rattle.std.specs.List.{flat_map, fold}
use Rattle.std.specs.Str.{trim}
use Rattle.rb_script.specs.Lines.{Line}
use Rattle.rb_script.specs.Marks.{is_comment}
use Rattle.rb_replay.specs.Report.{same_lines}
use Rattle.rb_script_report.specs.declared.accept_options.AcceptFilter.{AcceptFilter}
use Rattle.rb_script_report.specs.Accepting.{is_picked}
use Rattle.rb_script_report.specs.Errors.{is_unexpected}
use Rattle.rb_check.specs.declared.answer.Answer.{Answer}
use Rattle.rb_check.specs.declared.answer.Answer.TheVariants as answers
use Rattle.rb_check.specs.declared.answer.HeardAnswer.{HeardAnswer}
use Rattle.rb_check.specs.declared.answer.HeardAnswer.TheVariants as heard
use Rattle.rb_check.specs.declared.check_request.CheckRequest.{CheckRequest}
use Rattle.rb_check.specs.declared.question.ReviewQuestion.{ReviewQuestion}
use Rattle.rb_check.specs.declared.review.Review.{Review}
use Rattle.rb_check.specs.declared.review.Review.TheVariants as reviews
use Rattle.rb_check.specs.declared.review.Reviewer.{Reviewer}
use Rattle.rb_check.specs.Subjects.{PlainChecked, PlainRan, runs_of}

-- ---- what is asked about

-- a directive whose output is not the expected one, and that is picked
abbrev pub question_of : Bool → AcceptFilter → List Line → PlainRan → List ReviewQuestion
question_of errors picked ls d =
    if same_lines d.block.expected d.output || not (is_picked picked d.line) then []
    else record { index = d.index; head = d.line; is_taken = errors || not (is_unexpected ls d.line d.output) } ∷ []

-- the questions of a script, where these of its directives are picked
abbrev pub questions_of : CheckRequest → AcceptFilter → PlainChecked → List ReviewQuestion
questions_of asked picked c = flat_map (question_of asked.accepts_errors picked c.layout.text) (runs_of c)

-- they are about the first n directives
abbrev pub AreWithin : List ReviewQuestion → ℕ → Type 0
AreWithin questions n = (i : ℕ) → (question : ReviewQuestion) → slice_get questions i ≡ Some question → question.index < n

-- which of how many it is
abbrev pub question_text : ℕ → ℕ → List ℕ
question_text number count = decimal number ++ (codes " of " ++ (decimal count ++ codes ": accept this output? [y,n,a,s,q,?] "))

-- ---- the comment above a directive

-- how many of the first n lines are above the comments at their end
abbrev pub above_comment : List Line → ℕ → ℕ
above_comment ls zero = 0
above_comment ls (suc n) = if is_comment (slice_index_or ls n []) then above_comment ls n else suc n

abbrev pub with_end : Line → List ℕ
with_end line = line ++ codes "\n"

-- how many lines are above the head that begins on the line, which counts from 1
abbrev pub lines_above : List Line → ℕ → ℕ
lines_above ls line = min (line - 1) (length ls)

-- the comments directly above the head
abbrev pub comment_text : List Line → ℕ → List ℕ
comment_text ls line = flat_map with_end (drop (above_comment ls (lines_above ls line)) (take (lines_above ls line) ls))

-- ---- what answers mean

-- the answer that a letter is: y, n, a, s, q
abbrev pub answer_of : ℕ → Option Answer
answer_of b = if b == 121 then Some answers.Yes else (if b == 110 then Some answers.No else (if b == 97 then Some answers.All else (if b == 115 then Some answers.Skip else (if b == 113 then Some answers.Quit else None))))

-- a word is one letter
abbrev pub answer_to : List ℕ → Option Answer
answer_to [] = None
answer_to (b ∷ []) = answer_of b
answer_to (b ∷ c ∷ word) = None

abbrev pub heard_as : Option Answer → HeardAnswer
heard_as None = heard.Else
heard_as (Some answer) = heard.Answer answer

-- what a line says, white space around it aside
abbrev pub heard_in : List ℕ → HeardAnswer
heard_in line = heard_as (answer_to (trim line))

-- what a read of a line says: an empty line is the end, and so is a read that failed
abbrev pub heard_by_line : Option (List ℕ) → HeardAnswer
heard_by_line None = heard.End
heard_by_line (Some []) = heard.End
heard_by_line (Some (b ∷ line)) = heard_in (b ∷ line)

-- what the bytes of one read say, if the terminal gives each key at once: of several none is an answer, nor is one soon after what is none; nothing,
-- and Ctrl-D alone, are the end
abbrev pub heard_by_key : Bool → List ℕ → HeardAnswer
heard_by_key is_soon [] = heard.End
heard_by_key is_soon (b ∷ []) = if is_soon then heard.Else else (if b == 4 then heard.End else heard_as (answer_of b))
heard_by_key is_soon (b ∷ c ∷ keys) = heard.Else

-- what a read of keys says: one that failed is the end
abbrev pub heard_by_read : Bool → Option (List ℕ) → HeardAnswer
heard_by_read is_soon None = heard.End
heard_by_read is_soon (Some keys) = heard_by_key is_soon keys

-- what is shown of them, since such a terminal shows nothing: a key alone, if it is visible
abbrev pub visible_key : List ℕ → List ℕ
visible_key [] = []
visible_key (b ∷ []) = if nat_lt 32 b && nat_lt b 127 then b ∷ [] else []
visible_key (b ∷ c ∷ keys) = []

-- what is still to be asked after it
abbrev pub next_review : Answer → Review
next_review answers.Yes = reviews.Each
next_review answers.No = reviews.Each
next_review answers.All = reviews.Rest
next_review answers.Skip = reviews.Skipped
next_review answers.Quit = reviews.Over

-- the head that it was given for, where the output is accepted by it
abbrev pub said_by : Answer → ℕ → List ℕ
said_by answers.Yes head = head ∷ []
said_by answers.No head = []
said_by answers.All head = head ∷ []
said_by answers.Skip head = []
said_by answers.Quit head = []

-- a head that isn't asked about, once all others are accepted
abbrev pub said_unasked : ReviewQuestion → List ℕ
said_unasked question = if question.is_taken then question.head ∷ [] else []

-- ---- the lines that are read

-- the next line; if there are no more, the end
abbrev pub first_heard : List HeardAnswer → HeardAnswer
first_heard [] = heard.End
first_heard (next ∷ more) = next

abbrev pub rest_heard : List HeardAnswer → List HeardAnswer
rest_heard [] = []
rest_heard (next ∷ more) = more

-- the first answer: after a line that isn't one, the question is asked again, and the end means q
abbrev pub answered : List HeardAnswer → Answer
answered [] = answers.Quit
answered (heard.Answer answer ∷ more) = answer
answered (heard.Else ∷ more) = answered more
answered (heard.End ∷ more) = answers.Quit

-- the lines after it
abbrev pub after_answer : List HeardAnswer → List HeardAnswer
after_answer [] = []
after_answer (heard.Answer answer ∷ more) = more
after_answer (heard.Else ∷ more) = after_answer more
after_answer (heard.End ∷ more) = more

-- ---- what is accepted

-- the heads that are accepted so far, what is still to be asked, and what is still to come
pub record Reviewing : Type 0 where
  pub said : List ℕ
  pub review : Review
  pub left : List HeardAnswer

abbrev pub reviewing : List ℕ → Review → List HeardAnswer → Reviewing
reviewing said review left = record { said = said; review = review; left = left }

-- a reviewer's review, by the lines that are left
abbrev pub review_so_far : {P : Type 0} → (P → List HeardAnswer) → Reviewer P → Reviewing
review_so_far left r = reviewing r.said.items r.review (left r.person)

-- if it is known what is still to be read, and that is few lines, then so it is afterwards; no line comes back, and this holds
pub record Hears {P : Type 0} (is_known : P → Type 0) (left : P → List HeardAnswer) (old new : P) (holds : Type 0) : Type 0 where
  pub known : is_known old → is_known new
  pub few : is_known old → length (left old) < 2 ^ 64 → length (left new) ≤ length (left old)
  pub so : is_known old → length (left old) < 2 ^ 64 → holds

abbrev pub answered_one : Reviewing → ReviewQuestion → Reviewing
answered_one r question = reviewing (r.said ++ said_by (answered r.left) question.head) (next_review (answered r.left)) (after_answer r.left)

abbrev pub reviewed_as : Review → Reviewing → ReviewQuestion → Reviewing
reviewed_as reviews.Each r question = answered_one r question
reviewed_as reviews.Rest r question = reviewing (r.said ++ said_unasked question) r.review r.left
reviewed_as reviews.Skipped r question = r
reviewed_as reviews.Over r question = r

-- a question is asked, where it is still to be asked
abbrev pub reviewed_one : Reviewing → ReviewQuestion → Reviewing
reviewed_one r question = reviewed_as r.review r question

abbrev pub reviewed_all : Reviewing → List ReviewQuestion → Reviewing
reviewed_all r questions = fold reviewed_one r questions

-- what is to be asked of the next script
abbrev pub review_behind : Review → Review
review_behind reviews.Each = reviews.Each
review_behind reviews.Rest = reviews.Each
review_behind reviews.Skipped = reviews.Each
review_behind reviews.Over = reviews.Over

-- A review of a script: what is accepted of its questions, by what was asked before and the lines that are read.
abbrev pub review_of : Review → List HeardAnswer → List ReviewQuestion → Reviewing
review_of review left questions = reviewed_all (reviewing [] (review_behind review) left) questions

-- what is said where a review ends before all scripts were looked at
abbrev pub quit_text : ℕ → ℕ → List ℕ
quit_text accepted left = codes "the review ends here; accepted so far: " ++ (decimal accepted ++ (codes "; scripts not looked at: " ++ (decimal left ++ codes "\n")))

-- at the end of all scripts it is said only of a review that has ended
abbrev pub review_end : Review → ℕ → ℕ → List ℕ
review_end reviews.Each accepted left = []
review_end reviews.Rest accepted left = []
review_end reviews.Skipped accepted left = []
review_end reviews.Over accepted left = quit_text accepted left
