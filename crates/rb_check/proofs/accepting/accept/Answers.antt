use Rattle.std.proofs.Common.{◌≡◌, ◌∙◌, ◌++◌, ℕ, List, Some, None, refl, ap, sym}
use Rattle.rb_check.specs.declared.report_state.ReportForm.{ReportForm}
use Rattle.rb_check.specs.declared.script_result.ScriptResult.{ScriptResult}
use Rattle.rb_check.specs.AcceptTexts.{ended_text, leaving_text, refusal_failure, refused, tried}
use Rattle.rb_check.specs.Results.{result_after}
use Rattle.rb_check.specs.Subjects.{plain_of, result_of}
use Rattle.rb_check.proofs.ShownLaws.{along, goes_on}
use Rattle.rb_check.proofs.accepting.accept.Goals as goal

pub returns-in-Ok-clause-said : goal.returns-in-Ok-clause-said
returns-in-Ok-clause-said g c =
    let about = plain_of c.args.subject.now in
    let found = c.keep.result in (
      leaving_text c.args.report.now.state.form c.args.wanted about ++ ended_text c.args.report.now.state.form about found,
      tried (c.keep.ensures.found ∙ ap (λ (r : ScriptResult). result_after r c.in-Ok.made.left.items found.failure) c.requires.result ∙ ap (λ (left : List ℕ). result_after (result_of about) left found.failure) c.in-Ok.ensures.left) refl,
      goes_on (λ (f : ReportForm). ended_text f about found) c.leave.ensures c.keep.ensures.shown,
    )

pub returns-in-Err-clause-said : goal.returns-in-Err-clause-said
returns-in-Err-clause-said g c =
    let about = plain_of c.args.subject.now in
    let form = c.args.report.now.state.form in
    let failure = refusal_failure c.in-Err.fault in (
      ended_text form about c.fail.result,
      refused c.in-Err.fault c.in-Err.ensures.refused c.fail.ensures.told (c.fail.ensures.found ∙ ap (λ (r : ScriptResult). record r { failure = Some failure }) c.requires.result) refl,
      along (sym (ap (ended_text form about) c.fail.ensures.found)) c.fail.ensures.shown,
    )

pub returns-in-Err-clause-written : goal.returns-in-Err-clause-written
returns-in-Err-clause-written g c = λ unfailed. let no : Some (refusal_failure c.in-Err.fault) ≡ None = sym (ap (λ (r : ScriptResult). r.failure) c.fail.ensures.found) ∙ unfailed in absurd cc
