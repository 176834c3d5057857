use Rattle.std.proofs.Common.{ℕ, List, ◌++◌, Some, refl, ap, sym, subst}
use Rattle.std.specs.List.{flat_map}
use Rattle.rb_check.specs.ScriptTexts.{alone, whole, alone_text, report_text, shown_warnings}
use Rattle.rb_report.specs.declared.check.failure.Failure.TheVariants.{NoDirective}
use Rattle.rb_check.specs.Subjects.{plain_of}
use Rattle.rb_check.specs.Targets.{AreNamedLines, memory, no_directive_failure}
use Rattle.rb_check.proofs.ShownLaws.{err_with, if_err, if_ok, ok_so, on_err, part_nothing}
use Rattle.rb_check.proofs.TargetLaws.{not_found}
use Rattle.rb_check.proofs.showing.tell.Goals as goal

pub returns-in-Some-clause-shown : goal.returns-in-Some-clause-shown
returns-in-Some-clause-shown g c =
    let subject = c.args.subject.now in
    let asked = c.args.asked.now in
    let is = rw c.in-Some.is at c.in_ok-lines.ensures.asked in
    let lines = rw c.in-Some.is at c.in_ok-lines.ensures.named is.0 is.1 in
    ok_so c.show_alone.result (λ shown. (
      flat_map (alone_text (plain_of subject)) shown.places,
      alone c.deref.result.now shown.places is.0 is.1 (subst (λ (ls : List ℕ). AreNamedLines (g.S.System.tells_one c.args.system.now) subject.path.now asked.targets.now (Some ls)) (sym c.deref.ensures.value) lines) shown.named refl,
      shown.out,
    )) c.show_alone.ensures.shown

pub returns-clause-shown : goal.returns-clause-shown
returns-clause-shown g c =
    let asked = c.args.asked.now in
    let subject = plain_of c.args.subject.now in
    let warned = shown_warnings asked c.args.report.now.state.form subject in
    if_ok c.show.result _ _ _ _ _ _ warned (report_text asked subject) c.warn.ensures c.show.ensures.shown
    (λ out. (warned ++ report_text asked subject, whole (λ unaccepted people. rw c.in_default.is at c.in_ok-lines.ensures.named unaccepted people) refl, out))

pub returns-clause-part : goal.returns-clause-part
returns-clause-part g c = if_err c.show.result _ _ _ _ _ _ _ _ c.warn.ensures c.show.ensures.shown

pub returns-in_err-lines-clause-part : goal.returns-in_err-lines-clause-part
returns-in_err-lines-clause-part g c = on_err c.from_residual.result (part_nothing _ _)

pub returns-in-Some-clause-failed : goal.returns-in-Some-clause-failed
returns-in-Some-clause-failed g c =
    let subject = c.args.subject.now in
    let asked = c.args.asked.now in
    let named = λ (lines : List ℕ). AreNamedLines (g.S.System.tells_one c.args.system.now) subject.path.now asked.targets.now (Some lines) in
    let is = rw c.in-Some.is at c.in_ok-lines.ensures.asked in
    let lines = rw c.in-Some.is at c.in_ok-lines.ensures.named is.0 is.1 in
    err_with c.show_alone.result (λ error missed. not_found named c.deref.result.now subject.layout.now.heads.items NoDirective (no_directive_failure asked.accepts) error (subst named (sym c.deref.ensures.value) lines) (sym (ap no_directive_failure is.0)) missed)
    c.show_alone.ensures.failed

pub returns-clause-failed : goal.returns-clause-failed
returns-clause-failed g c = err_with c.show.result (λ error is. memory is) c.show.ensures.memory
