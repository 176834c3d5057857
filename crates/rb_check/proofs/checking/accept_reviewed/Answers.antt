use Rattle.std.proofs.Common.{◌++◌, ℕ, List, ap, refl, subst, sym}
use Rattle.rb_check.specs.declared.report_state.ReportForm.{ReportForm}
use Rattle.rb_check.specs.Endings.{AreWanted}
use Rattle.rb_check.specs.Reviews.{Reviewing}
use Rattle.rb_check.specs.Subjects.{plain_of}
use Rattle.rb_check.proofs.AnswerLaws.{accepts_any}
use Rattle.rb_check.proofs.ShownLaws.{goes_on, on_err}
use Rattle.rb_check.proofs.checking.accept_reviewed.Goals as goal

pub returns-clause-accepted : goal.returns-clause-accepted
returns-clause-accepted g c =
    let asking = c.in_ok-said.ensures.shown in
    let accepting = c.accept.ensures.said in (
      asking.0 ++ accepting.0,
      record {
        said = c.in_ok-said.said.items;
        wanted = c.wanted_of.result;
        asking = asking.0;
        accepting = accepting.0;
        review = λ k f. record { said_is = sym (ap (λ (r : Reviewing). r.said) (c.in_ok-said.ensures.heard.so k f)); review_is = sym (ap (λ (r : Reviewing). r.review) (c.in_ok-said.ensures.heard.so k f)) };
        are_wanted = subst (λ (heads : List ℕ). AreWanted heads c.wanted_of.result) c.as_slice.ensures.value c.wanted_of.ensures;
        are_asked = asking.1;
        accepts = accepts_any c.args.report.now.state.form _ c.wanted_of.result (plain_of c.args.subject.now) c.accept.result accepting.0 asking.2.form accepting.1;
        text_is = refl;
      },
      goes_on (λ (f : ReportForm). accepting.0) asking.2 accepting.2,
    )

pub returns-in_err-said-clause-part : goal.returns-in_err-said-clause-part
returns-in_err-said-clause-part g c = on_err c.from_residual.result c.in_err-said.ensures.part
