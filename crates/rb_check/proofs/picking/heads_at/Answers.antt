use Rattle.std.proofs.Common.{◌≡◌, ◌-◌, ℕ, List, [], Some, refl, sym, subst}
use Rattle.std.specs.Prelude.{slice_get}
use Rattle.rb_check.specs.declared.report_state.ReportForm.{ReportForm}
use Rattle.std.specs.List.Sorted.{IsNonDecreasing}
use Rattle.rb_check.specs.Place.{ArePartedAt}
use Rattle.rb_check.specs.Targets.{missing}
use Rattle.rb_check.specs.ScriptTexts.{ArePicked, IsNamed, matched_at, matched_text}
use Rattle.rb_check.specs.Subjects.{plain_of}
use Rattle.rb_check.proofs.NamedLaws.{none_picked, picked_more, picked_part}
use Rattle.rb_check.proofs.ShownLaws.{on_err, part_then, part_whole}
use Rattle.rb_check.proofs.picking.heads_at.Goals as goal

pub loop-i-init : goal.loop-i-init
loop-i-init g c =
    let subject = c.args.subject.now in
    let heads = subject.layout.now.heads.items in
    let state = c.args.report.now.state in
    let held = g.W.Sink.held c.args.report.now.output in
    subst (λ (xs : List ℕ). ArePicked (matched_text state.form (plain_of subject)) heads [] xs state state held held) (sym c.new-picked.ensures.items) (none_picked _ heads state held)

pub loop-i-preserved : goal.loop-i-preserved
loop-i-preserved g c =
    let subject = c.args.subject.now in
    let heads = subject.layout.now.heads.items in
    let line = c.number_at-line.result in
    let place = c.in-Some.place in
    let head = c.in-Some.head in
    let named : IsNamed c.as_slice.result.now line place = record { from_1 = c.in-Some.ensures.head.0; last = c.in-Some.ensures.last } in
    picked_more (λ (f : ReportForm) (n k : ℕ). matched_at f (plain_of subject) n k) heads c.args.lines.now c.loop-i.picked.items c.push.new.picked.items c.loop-i.i line place head c.number_at-line.ensures
    (subst (λ (hs : List ℕ). IsNamed hs line place) c.as_slice.ensures.value named) (subst (λ (hs : List ℕ). slice_get hs (place - 1) ≡ Some head) c.as_slice.ensures.value c.in-Some.ensures.head.1)
    c.in_ok-push.ensures c.loop-i.invariant c.tell_matched.ensures

pub returns-in_err-push-clause-part : goal.returns-in_err-push-clause-part
returns-in_err-push-clause-part g c = on_err c.from_residual.result (part_then c.loop-i.invariant.out (part_whole _ c.tell_matched.ensures))

pub returns-in_default-clause-part : goal.returns-in_default-clause-part
returns-in_default-clause-part g c = picked_part c.loop-i.invariant

pub returns-in_default-clause-failed : goal.returns-in_default-clause-failed
returns-in_default-clause-failed g c =
    let line = c.number_at-line.result in
    missing c.args.lines.now c.loop-i.i line refl c.number_at-line.ensures (subst (λ (hs : List ℕ). IsNonDecreasing hs → ArePartedAt hs line 0) c.as_slice.ensures.value c.in_default.ensures.last) c.no_directive.ensures
