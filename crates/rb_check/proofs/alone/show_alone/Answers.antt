use Rattle.std.proofs.Common.{◌≡◌, ◌+◌, ◌-◌, ℕ, List, refl, ap, subst, arith}
use Rattle.std.proofs.lemmas.List.{take_all}
use Rattle.std.specs.List.Sorted.{IsNonDecreasing}
use Rattle.rb_files.specs.declared.path_error.PathError.{PathError}
use Rattle.rb_check.specs.Place.{ArePartedAt}
use Rattle.rb_check.specs.Targets.{missing}
use Rattle.rb_check.specs.declared.report_state.ReportForm.{ReportForm}
use Rattle.rb_check.specs.ScriptTexts.{AreShown, IsNamed, alone_text}
use Rattle.rb_check.specs.Subjects.{plain_of}
use Rattle.rb_check.proofs.NamedLaws.{none_shown, shown_more, shown_part}
use Rattle.rb_check.proofs.ShownLaws.{along, on_err, part_then}
use Rattle.rb_check.proofs.alone.show_alone.Goals as goal

pub loop-i-init : goal.loop-i-init
loop-i-init g c = none_shown _ _ _ _

pub loop-i-preserved : goal.loop-i-preserved
loop-i-preserved g c =
    let subject = c.args.subject.now in
    let line = c.number_at-line.result in
    let place = c.in-Some.place in
    let text = alone_text (plain_of subject) in
    let named : IsNamed c.as_slice.result.now line place = record { from_1 = c.in-Some.ensures.head.0; last = c.in-Some.ensures.last } in
    let same : place - 1 + 1 ≡ place = omega (arith, c.in-Some.ensures.head.0) in
    shown_more (λ (f : ReportForm). text) subject.layout.now.heads.items c.args.lines.now c.loop-i.i line place c.number_at-line.ensures
    (subst (λ (hs : List ℕ). IsNamed hs line place) c.as_slice.ensures.value named) c.loop-i.invariant (along (ap text same) c.in_ok-show_directive.ensures.shown)

pub returns-in_default-clause-part : goal.returns-in_default-clause-part
returns-in_default-clause-part g c = shown_part c.loop-i.invariant

pub returns-in_err-show_directive-clause-part : goal.returns-in_err-show_directive-clause-part
returns-in_err-show_directive-clause-part g c = on_err c.from_residual.result (part_then c.loop-i.invariant.out c.in_err-show_directive.ensures.shown)

pub returns-clause-shown : goal.returns-clause-shown
returns-clause-shown g c =
    let subject = c.args.subject.now in
    let lines = c.args.lines.now in
    subst (λ (ls : List ℕ). AreShown (alone_text (plain_of subject)) subject.layout.now.heads.items ls c.args.report.now.state c.loop-i.report.state (g.W.Sink.held c.args.report.now.output) (g.W.Sink.held c.loop-i.report.output)) (take_all c.loop-i.i lines (omega (arith, c.loop-i-test.false))) c.loop-i.invariant

pub returns-in_default-clause-failed : goal.returns-in_default-clause-failed
returns-in_default-clause-failed g c =
    let line = c.number_at-line.result in
    missing c.args.lines.now c.loop-i.i line refl c.number_at-line.ensures (subst (λ (hs : List ℕ). IsNonDecreasing hs → ArePartedAt hs line 0) c.as_slice.ensures.value c.in_default.ensures.last) (ap (λ (e : PathError). e.failure) c.alone.ensures)
