use Rattle.std.proofs.Common.{◌++◌, refl}
use Rattle.rb_check.specs.declared.report_state.ReportForm.{ReportForm}
use Rattle.rb_check.specs.Asking.{subject_text}
use Rattle.rb_check.specs.Subjects.{plain_of}
use Rattle.rb_check.proofs.ShownLaws.{goes_on, on_err, part_then}
use Rattle.rb_check.proofs.review.ask_about.Goals as goal

pub returns-clause-shown : goal.returns-clause-shown
returns-clause-shown g c =
    let asked = c.in_ok-ask.ensures.shown in
    (subject_text (plain_of c.args.subject.now) c.args.question ++ asked.0, record { asking = asked.0; asked = asked.1; text_is = refl }, goes_on (λ (f : ReportForm). asked.0) c.in_ok-show.ensures.shown asked.2)

pub returns-in_err-show-clause-part : goal.returns-in_err-show-clause-part
returns-in_err-show-clause-part g c = on_err c.from_residual.result c.in_err-show.ensures.shown

pub returns-in_err-ask-clause-part : goal.returns-in_err-ask-clause-part
returns-in_err-ask-clause-part g c = on_err c.from_residual-in_err-ask.result (part_then c.in_ok-show.ensures.shown c.in_err-ask.ensures.part)
