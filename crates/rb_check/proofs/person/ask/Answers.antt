use Rattle.std.proofs.Common.{◌≡◌, ◌∙◌, ◌-◌, ◌^◌, ℕ, List, [], ◌∷◌, ◌++◌, length, length-append, refl, ap, sym, arith}
use Rattle.std.specs.List.{flat_map}
use Rattle.rb_check.specs.declared.answer.HeardAnswer.{HeardAnswer}
use Rattle.rb_check.specs.declared.report_state.ReportForm.{ReportForm}
use Rattle.rb_check.specs.Asking as asking
use Rattle.rb_check.specs.Asking.{echo_of, missed_text}
use Rattle.rb_check.specs.Reviews.{answered, after_answer}
use Rattle.rb_check.proofs.AskingLaws.{asked_again}
use Rattle.rb_check.proofs.ReviewLaws.{else_answered, else_after, else_length}
use Rattle.rb_check.proofs.ShownLaws.{along, goes_nothing, goes_on}
use Rattle.rb_check.proofs.person.ask.Goals as goal

pub loop-turns-init : goal.loop-turns-init
loop-turns-init g c = record { known = λ k. k; same = λ k. refl; rest = λ k. refl; few = λ k. omega arith; most = omega arith; asked = ([], refl, goes_nothing _ _) }

pub loop-turns-preserved : goal.loop-turns-preserved
loop-turns-preserved g c =
    let ls = g.P.Person.left c.loop-turns.person in
    let here = c.loop-turns.invariant.known in
    let so_far = c.loop-turns.invariant.asked in
    let question = c.args.question.now in
    let keys = c.ask.ensures.shown.0 in
    record {
      known = λ k. c.ask.ensures.known (here k);
      same = λ k. ap (λ (xs : List HeardAnswer). answered xs) (c.ask.ensures.rest (here k)) ∙ else_answered ls (sym (c.ask.ensures.next (here k)) ∙ c.in-Else.is) ∙ c.loop-turns.invariant.same k;
      rest = λ k. ap (λ (xs : List HeardAnswer). after_answer xs) (c.ask.ensures.rest (here k)) ∙ else_after ls (sym (c.ask.ensures.next (here k)) ∙ c.in-Else.is) ∙ c.loop-turns.invariant.rest k;
      few = λ k. omega (arith, ap (λ (xs : List HeardAnswer). length xs) (c.ask.ensures.rest (here k)), else_length ls (sym (c.ask.ensures.next (here k)) ∙ c.in-Else.is), c.loop-turns.invariant.few k);
      most = omega (arith, c.loop-turns-test.true);
      asked = (
        so_far.0 ++ keys ∷ [],
        omega (arith, length-append so_far.0 (keys ∷ []), so_far.1),
        along (ap (λ (l : List ℕ). flat_map (missed_text question) so_far.0 ++ ((question ++ echo_of keys) ++ l)) c.help.ensures ∙ asked_again question so_far.0 keys)
            (goes_on (λ (f : ReportForm). (question ++ echo_of keys) ++ c.help.result.now) so_far.2 (goes_on (λ (f : ReportForm). c.help.result.now) c.ask.ensures.shown.1 c.put.ensures.shown)),
      );
    }

pub returns-in-Answer-clause-shown : goal.returns-in-Answer-clause-shown
returns-in-Answer-clause-shown g c =
    let so_far = c.loop-turns.invariant.asked in
    let question = c.args.question.now in
    let keys = c.ask.ensures.shown.0 in
    (flat_map (missed_text question) so_far.0 ++ (question ++ echo_of keys), asking.answered so_far.0 keys refl, goes_on (λ (f : ReportForm). question ++ echo_of keys) so_far.2 c.ask.ensures.shown.1)

pub returns-in-End-clause-shown : goal.returns-in-End-clause-shown
returns-in-End-clause-shown g c =
    let so_far = c.loop-turns.invariant.asked in
    let question = c.args.question.now in
    let keys = c.ask.ensures.shown.0 in
    (flat_map (missed_text question) so_far.0 ++ (question ++ echo_of keys), asking.answered so_far.0 keys refl, goes_on (λ (f : ReportForm). question ++ echo_of keys) so_far.2 c.ask.ensures.shown.1)

pub returns-clause-shown : goal.returns-clause-shown
returns-clause-shown g c =
    let so_far = c.loop-turns.invariant.asked in
    let all : length so_far.0 ≡ 2 ^ 64 - 1 = omega (arith, so_far.1, c.loop-turns.invariant.most, c.loop-turns-test.false) in
    (flat_map (missed_text c.args.question.now) so_far.0, asking.given_up so_far.0 all refl, so_far.2)
