-- A script that is checked: what goes out of it, one part after another.
use Rattle.std.proofs.Common.{◌≡◌, ◌∙◌, ℕ, Bool, true, false, List, ◌++◌, length, Option, refl, ap, sym, subst}
use Rattle.std.specs.Prelude.{◌||◌, ◌&&◌, ◌==◌, not, if◌then◌else◌, ⊤}
use Rattle.rb_script_report.specs.declared.accept_options.AcceptFilter.{AcceptFilter}
use Rattle.rb_script_report.specs.declared.accept_options.AcceptOptions.{AcceptOptions}
use Rattle.rb_script_report.specs.declared.warning.Warning.{Warning}
use Rattle.rb_script_report.specs.declared.written.AcceptFault.{AcceptFault}
use Rattle.rb_check.specs.declared.answer.HeardAnswer.{HeardAnswer}
use Rattle.rb_check.specs.declared.check_request.CheckRequest.{CheckRequest}
use Rattle.rb_check.specs.declared.ending.CheckEnding.{CheckEnding}
use Rattle.rb_check.specs.declared.ending.CheckEnding.TheVariants.{Kept, Refused, Accepted, Reviewed}
use Rattle.rb_check.specs.declared.report_state.ReportForm.{ReportForm}
use Rattle.rb_check.specs.declared.report_state.ReportState.{ReportState}
use Rattle.rb_check.specs.declared.review.Review.{Review}
use Rattle.rb_check.specs.declared.script_result.ScriptResult.{ScriptResult}
use Rattle.rb_check.specs.AcceptTexts.{Accepts, ended_text, leaving_text, refused, tried}
use Rattle.rb_check.specs.Endings.{EndsAs, IsAnswered, IsPicked, ending_at, ending_of}
use Rattle.rb_check.specs.ScriptTexts.{AreNamedHeads, IsTold}
use Rattle.rb_check.specs.Shown.{GoesOut}
use Rattle.rb_check.specs.Subjects.{PlainChecked, result_of, warnings_in}
use Rattle.rb_check.proofs.ShownLaws.{goes_on}

-- whatever the stream of errors has of it
pub accepts_any : {tells : AcceptFault → Type 0} (form other : ReportForm) (wanted : AcceptOptions) (c : PlainChecked) (r : ScriptResult) (text : List ℕ) → other ≡ form → Accepts tells other wanted c r text → Accepts (λ _. ⊤) form wanted c r text
accepts_any form other wanted c r text same (tried is e) = tried is (e ∙ ap (λ (f : ReportForm). leaving_text f wanted c ++ ended_text f c r) same)
accepts_any form other wanted c r text same (refused fault cause told is e) = refused fault cause tt is (e ∙ ap (λ (f : ReportForm). ended_text f c r) same)

only_reviews : (kept warned reviews : Bool) → (if kept then Kept else (if warned then Refused else (if reviews then Reviewed else Accepted))) ≡ Reviewed → reviews ≡ true
only_reviews true warned reviews e = absurd cc
only_reviews false true reviews e = absurd cc
only_reviews false false true e = refl
only_reviews false false false e = absurd cc

-- it is asked about outputs in a review alone
pub is_review : (asked : CheckRequest) (has_warnings : Bool) (n : ℕ) → ending_of asked has_warnings n ≡ Reviewed → asked.reviews ≡ true
is_review asked has_warnings n e = only_reviews (not asked.accepts || (n == 0)) (has_warnings && not asked.is_forced) asked.reviews e

-- by the numbers of the script
pub ending_so : (asked : CheckRequest) (c : PlainChecked) (is_empty : Bool) (ws : List Warning) (r : ScriptResult) → ws ≡ warnings_in c → r ≡ result_of c → is_empty ≡ (length ws == 0) → ending_of asked (not is_empty) r.left ≡ ending_at asked c
ending_so asked c is_empty ws r warned is empty =
    ap (λ (b : Bool). ending_of asked (not b) r.left) (empty ∙ ap (λ (l : List Warning). length l == 0) warned) ∙ ap (λ (s : ScriptResult). ending_of asked (not (length (warnings_in c) == 0)) s.left) is

module _ {one two three four : ReportState} {a b m d : Option (List ℕ)} {tells : List ℕ → List ℕ → Bool → Type 0} {asked : CheckRequest} {is_known : Type 0} {coming : List HeardAnswer} {c : PlainChecked} {before after : Review} {r : ScriptResult} where
  pub answered : (heads : Option (List ℕ)) (picked : AcceptFilter) (ending : CheckEnding) → ending_at asked c ≡ ending
      → ((text : List ℕ) × IsTold tells asked one.form c text × GoesOut one two a b text) → ((text : List ℕ) × AreNamedHeads tells asked two.form c heads text × GoesOut two three b m text) → IsPicked asked c heads picked
      → ((text : List ℕ) × EndsAs ending asked is_known coming three.form c picked before after r text × GoesOut three four m d text)
      → (text : List ℕ) × IsAnswered tells asked is_known coming one.form c before after r text × GoesOut one four a d text
  answered heads picked ending is told named picking ended =
      let first = told.2.form in
      let second = named.2.form ∙ first in (
        told.0 ++ (named.0 ++ ended.0),
        record {
          heads = heads;
          picked = picked;
          told = told.0;
          named = named.0;
          ended = ended.0;
          telling = told.1;
          naming = subst (λ (f : ReportForm). AreNamedHeads tells asked f c heads named.0) first named.1;
          picking = picking;
          ending = subst (λ (e : CheckEnding). EndsAs e asked is_known coming one.form c picked before after r ended.0) (sym is)
              (subst (λ (f : ReportForm). EndsAs ending asked is_known coming f c picked before after r ended.0) second ended.1);
          text_is = refl;
        },
        goes_on (λ (f : ReportForm). named.0 ++ ended.0) told.2 (goes_on (λ (f : ReportForm). ended.0) named.2 ended.2),
      )
