-- What is done with the outputs of a script, and what goes out of it. (This project's.)
use Rattle.std.specs.Prelude.{◌≡◌, ℕ, ◌<◌, ◌^◌, ◌==◌, ◌&&◌, ◌||◌, ⊤, Bool, true, not, if◌then◌else◌, List, [], ◌++◌, Option, None, Some, length}
use Rattle.std.specs.List.{list_any}
use Rattle.rb_replay.specs.Report.{mismatches}
use Rattle.rb_script_report.specs.declared.accept_options.AcceptFilter.{AcceptFilter}
use Rattle.rb_script_report.specs.declared.accept_options.AcceptFilter.TheVariants as picks
use Rattle.rb_script_report.specs.declared.accept_options.AcceptOptions.{AcceptOptions}
use Rattle.rb_script_report.specs.Accepting.{is_picked, picked_unnamed}
use Rattle.rb_check.specs.declared.answer.HeardAnswer.{HeardAnswer}
use Rattle.rb_check.specs.declared.check_request.CheckRequest.{CheckRequest}
use Rattle.rb_check.specs.declared.ending.CheckEnding.{CheckEnding}
use Rattle.rb_check.specs.declared.ending.CheckEnding.TheVariants.{Kept, Refused, Accepted, Reviewed}
use Rattle.rb_check.specs.declared.remark.Remark.TheVariants as remarks
use Rattle.rb_check.specs.declared.report_state.ReportForm.{ReportForm}
use Rattle.rb_check.specs.declared.review.Review.{Review}
use Rattle.rb_check.specs.declared.script_result.ScriptResult.{ScriptResult}
use Rattle.rb_check.specs.AcceptTexts.{Accepts}
use Rattle.rb_check.specs.Asking.{AreReviewed}
use Rattle.rb_check.specs.Reviews.{Reviewing, questions_of, review_of}
use Rattle.rb_check.specs.ScriptTexts.{AreNamedHeads, IsTold}
use Rattle.rb_check.specs.Shown.{remark_text}
use Rattle.rb_check.specs.Subjects.{PlainChecked, result_of, warnings_in}

-- nothing is accepted unasked, nor without force in a script with warnings, and in a review only what is said yes to
abbrev pub ending_of : CheckRequest → Bool → ℕ → CheckEnding
ending_of asked has_warnings mismatches =
    if not asked.accepts || (mismatches == 0)
    then Kept
    else (if has_warnings && not asked.is_forced then Refused else (if asked.reviews then Reviewed else Accepted))

-- what is done with the outputs of a script
abbrev pub ending_at : CheckRequest → PlainChecked → CheckEnding
ending_at asked c = ending_of asked (not (length (warnings_in c) == 0)) (length (mismatches c.script))

-- ---- which outputs may be accepted

-- which directives are accepted if none is named: in a review each is asked about
abbrev pub unnamed : CheckRequest → PlainChecked → AcceptFilter
unnamed asked c = if asked.accepts && not asked.reviews then picked_unnamed asked.accepts_errors c.layout.text c.layout.heads.items c.script else picks.All

-- those of the heads that are named; or if none is, those that are accepted then
abbrev pub IsPicked : CheckRequest → PlainChecked → Option (List ℕ) → AcceptFilter → Type 0
IsPicked asked c None picked = picked ≡ unnamed asked c
IsPicked asked c (Some heads) picked = (line : ℕ) → is_picked picked line ≡ list_any (λ head. head == line) heads

-- ---- what happens to them, and what goes out

-- what is accepted are the outputs of these heads
pub record AreWanted (said : List ℕ) (wanted : AcceptOptions) : Type 0 where
  pub errors : wanted.errors ≡ true
  pub heads : (line : ℕ) → is_picked wanted.picked line ≡ list_any (λ head. head == line) said

-- the review accepts the outputs of these heads, and this is what is still to be asked then
pub record IsReviewOf (r : Reviewing) (said : List ℕ) (after : Review) : Type 0 where
  pub said_is : r.said ≡ said
  pub review_is : r.review ≡ after

-- it is asked about outputs, and those that are said yes to are accepted: if the lines that are read are known, those that the review of the questions accepts
pub record AcceptsSaid (asked : CheckRequest) (is_known : Type 0) (coming : List HeardAnswer) (form : ReportForm) (c : PlainChecked) (picked : AcceptFilter) (before after : Review) (r : ScriptResult) (text : List ℕ) : Type 0 where
  pub said : List ℕ
  pub wanted : AcceptOptions
  pub asking : List ℕ
  pub accepting : List ℕ
  pub review : is_known → length coming < 2 ^ 64 → IsReviewOf (review_of before coming (questions_of asked picked c)) said after
  pub are_wanted : AreWanted said wanted
  pub are_asked : AreReviewed c (questions_of asked picked c) before after asking
  pub accepts : Accepts (λ _. ⊤) form wanted c r accepting
  pub text_is : text ≡ asking ++ accepting

-- nothing is accepted, and nothing failed; or outputs are accepted, whatever the stream of errors has of it
abbrev pub EndsAs : CheckEnding → CheckRequest → Type 0 → List HeardAnswer → ReportForm → PlainChecked → AcceptFilter → Review → Review → ScriptResult → List ℕ → Type 0
EndsAs Kept asked is_known coming form c picked before after r text = (r ≡ result_of c) × (after ≡ before) × (text ≡ [])
EndsAs Refused asked is_known coming form c picked before after r text = (r ≡ result_of c) × (after ≡ before) × (text ≡ remark_text form c.path remarks.Unaccepted)
EndsAs Accepted asked is_known coming form c picked before after r text = Accepts (λ _. ⊤) form (record { picked = picked; errors = asked.accepts_errors }) c r text × (after ≡ before)
EndsAs Reviewed asked is_known coming form c picked before after r text = AcceptsSaid asked is_known coming form c picked before after r text

-- A script that was checked: it is shown, then it is said which of the directives that are named match, and then what happened to its outputs.
pub record IsAnswered (tells : List ℕ → List ℕ → Bool → Type 0) (asked : CheckRequest) (is_known : Type 0) (coming : List HeardAnswer) (form : ReportForm) (c : PlainChecked) (before after : Review) (r : ScriptResult) (text : List ℕ) : Type 0 where
  pub heads : Option (List ℕ)
  pub picked : AcceptFilter
  pub told : List ℕ
  pub named : List ℕ
  pub ended : List ℕ
  pub telling : IsTold tells asked form c told
  pub naming : AreNamedHeads tells asked form c heads named
  pub picking : IsPicked asked c heads picked
  pub ending : EndsAs (ending_at asked c) asked is_known coming form c picked before after r ended
  pub text_is : text ≡ told ++ (named ++ ended)
