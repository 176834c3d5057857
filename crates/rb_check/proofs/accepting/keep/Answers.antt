use Rattle.std.proofs.Common.{◌≡◌, ◌∙◌, ℕ, List, Some, None, ap, sym, arith}
use Rattle.rb_check.specs.declared.remark.Remark.TheVariants as remarks
use Rattle.rb_check.specs.declared.report_state.ReportForm.{ReportForm}
use Rattle.rb_check.specs.declared.script_result.ScriptResult.{ScriptResult}
use Rattle.rb_check.specs.AcceptTexts.{ended_text}
use Rattle.rb_check.specs.Results.{after_accepting, result_after}
use Rattle.rb_check.specs.Shown.{remark_text}
use Rattle.rb_check.specs.Subjects.{plain_of}
use Rattle.rb_check.proofs.AcceptLaws.{after_all, after_failure, ended_none, ended_some}
use Rattle.rb_check.proofs.ShownLaws.{along, goes_nothing, goes_on}
use Rattle.rb_check.proofs.accepting.keep.Goals as goal

pub returns-then-len-ran-clause-found : goal.returns-then-len-ran-clause-found
returns-then-len-ran-clause-found g c =
    let ran = c.args.subject.now.ran in
    let left = c.args.made.now.left.items in
    after_all ran left (grind (arith, c.len.ensures, c.if-len-ran.true)) ∙ sym (ap (result_after ran left) (ap (λ (r : ScriptResult). r.failure) c.requires.findings.result))

pub returns-then-len-ran-clause-shown : goal.returns-then-len-ran-clause-shown
returns-then-len-ran-clause-shown g c = along (sym (ended_none c.args.report.now.state.form (plain_of c.args.subject.now) c.args.subject.now.ran c.requires.findings.result)) (goes_nothing _ _)

pub returns-then-len-ran-clause-written : goal.returns-then-len-ran-clause-written
returns-then-len-ran-clause-written g c = λ unfailed some. absurd (some (ap (λ (r : ScriptResult). r.left) c.requires.findings.result))

pub returns-in-Ok-clause-found : goal.returns-in-Ok-clause-found
returns-in-Ok-clause-found g c =
    let ran = c.args.subject.now.ran in
    let left = c.args.made.now.left.items in
    let is = c.accepting-found.ensures ∙ ap (after_accepting ran) c.deref-in-Ok.ensures.value in
    is ∙ sym (ap (result_after ran left) (ap (λ (r : ScriptResult). r.failure) is ∙ after_failure ran left ∙ ap (λ (r : ScriptResult). r.failure) c.requires.findings.result))

pub returns-in-Ok-clause-shown : goal.returns-in-Ok-clause-shown
returns-in-Ok-clause-shown g c =
    let subject = c.args.subject.now in
    let left = c.args.made.now.left.items in
    let form = c.args.report.now.state.form in
    let is = c.accepting-found.ensures ∙ ap (after_accepting subject.ran) c.deref-in-Ok.ensures.value in
    let found = c.accepting-found.result in
    along (ap (λ (p : List ℕ). remark_text form p (remarks.Accepted found.accepted)) c.as_bytes.ensures.value ∙ ap (λ (r : ScriptResult). remark_text form subject.path.now (remarks.Accepted r.accepted)) is
    ∙ sym (ended_some form (plain_of subject) subject.ran left c.requires.findings.result (grind (arith, c.len.ensures, c.if-len-ran.false))) ∙ sym (ap (ended_text form (plain_of subject)) is))
    (goes_on (λ (f : ReportForm). remark_text f c.as_bytes.result.now (remarks.Accepted found.accepted)) c.write.ensures.shown c.remark.ensures.shown)

pub returns-in-Err-clause-found : goal.returns-in-Err-clause-found
returns-in-Err-clause-found g c =
    let ran = c.args.subject.now.ran in
    c.failing.ensures ∙ sym (ap (result_after ran c.args.made.now.left.items) (ap (λ (r : ScriptResult). r.failure) c.failing.ensures))

pub returns-in-Err-clause-shown : goal.returns-in-Err-clause-shown
returns-in-Err-clause-shown g c =
    let subject = c.args.subject.now in
    let form = c.args.report.now.state.form in
    let remark = remarks.Failed c.in-Err.error.failure in
    along (ap (λ (p : List ℕ). remark_text form p remark) c.as_bytes-in-Err.ensures.value ∙ sym (ap (ended_text form (plain_of subject)) c.failing.ensures))
    (goes_on (λ (f : ReportForm). remark_text f c.as_bytes-in-Err.result.now remark) c.write.ensures.shown c.fail.ensures.shown)

pub returns-in-Err-clause-written : goal.returns-in-Err-clause-written
returns-in-Err-clause-written g c = λ unfailed. let no : Some c.in-Err.error.failure ≡ None = sym (ap (λ (r : ScriptResult). r.failure) c.failing.ensures) ∙ unfailed in absurd cc
