use Rattle.std.proofs.Common.{◌≡◌, ◌∙◌, [], ◌++◌, take, refl, ap, arith}
use Rattle.std.proofs.lemmas.List.{take_all}
use Rattle.rb_check.specs.declared.report_state.ReportForm.{ReportForm}
use Rattle.rb_check.specs.Reviews.{review_so_far, reviewed_all}
use Rattle.rb_check.specs.Subjects.{plain_of}
use Rattle.rb_check.proofs.AskingLaws.{gone_all, gone_on, none_gone}
use Rattle.rb_check.proofs.ReviewLaws.{hears_on, never_ok, reviewed_more}
use Rattle.rb_check.proofs.ShownLaws.{goes_nothing, goes_on, on_err, part_then}
use Rattle.rb_check.proofs.review.go_over.Goals as goal

pub loop-i-init : goal.loop-i-init
loop-i-init g c = record {
  heard = record { known = λ k. k; few = λ k f. omega arith; so = λ k f. refl };
  shown = ([], none_gone (plain_of c.args.subject.now) c.args.questions.now c.args.reviewer.now.review, goes_nothing _ _);
}

pub review_one-requires-clause-within : goal.review_one-requires-clause-within
review_one-requires-clause-within g c = c.requires.within c.loop-i.i c.question_at-question.result c.question_at-question.ensures

pub loop-i-preserved : goal.loop-i-preserved
loop-i-preserved g c =
    let left = g.P.Person.left in
    let questions = c.args.questions.now in
    let i = c.loop-i.i in
    let question = c.question_at-question.result in
    let now = c.loop-i.reviewer in
    let one = c.in_ok-review_one.ensures in
    let next = c.review_one.new.reviewer in
    let had = c.loop-i.invariant.shown in
    let more = one.shown in
    let got = c.question_at-question.ensures in
    record {
      heard = hears_on g.P.Person.is_known left c.args.reviewer.now.person now.person next.person _ _ _ c.loop-i.invariant.heard one.heard
          (λ so_far this. reviewed_more (review_so_far left c.args.reviewer.now) (review_so_far left now) (review_so_far left next) questions i question got so_far this);
      shown = (
        had.0 ++ more.0,
        gone_on (plain_of c.args.subject.now) questions c.args.reviewer.now.review i question had.0 more.0 now.review next.review had.1 got one.each one.over more.1,
        goes_on (λ (f : ReportForm). more.0) had.2 more.2,
      );
    }

pub returns-clause-heard : goal.returns-clause-heard
returns-clause-heard g c =
    let heard = c.loop-i.invariant.heard in
    let all : take c.loop-i.i c.args.questions.now ≡ c.args.questions.now = take_all c.loop-i.i c.args.questions.now (omega (arith, c.loop-i-test.false)) in
    record { known = heard.known; few = heard.few; so = λ k f. heard.so k f ∙ ap (reviewed_all (review_so_far g.P.Person.left c.args.reviewer.now)) all }

pub returns-clause-shown : goal.returns-clause-shown
returns-clause-shown g c =
    let had = c.loop-i.invariant.shown in
    (had.0, gone_all (plain_of c.args.subject.now) c.args.questions.now c.args.reviewer.now.review c.loop-i.reviewer.review c.loop-i.i had.0 had.1 (omega (arith, c.loop-i-test.false)), had.2)

pub returns-in_err-review_one-clause-part : goal.returns-in_err-review_one-clause-part
returns-in_err-review_one-clause-part g c = on_err c.from_residual.result (part_then c.loop-i.invariant.shown.2 c.in_err-review_one.ensures.part)

pub returns-in_err-review_one-clause-heard : goal.returns-in_err-review_one-clause-heard
returns-in_err-review_one-clause-heard g c =
    hears_on g.P.Person.is_known g.P.Person.left c.args.reviewer.now.person c.loop-i.reviewer.person c.review_one.new.reviewer.person _ _ _ c.loop-i.invariant.heard c.in_err-review_one.ensures.heard (λ so_far this. never_ok (λ _. review_so_far g.P.Person.left c.review_one.new.reviewer ≡ reviewed_all (review_so_far g.P.Person.left c.args.reviewer.now) c.args.questions.now) c.from_residual.result c.from_residual.ensures.0)
