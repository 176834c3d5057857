use Rattle.std.proofs.Common.{◌≡◌, Some, length, refl, subst, sym, arith}
use Rattle.std.specs.Prelude.{slice_get}
use Rattle.std.proofs.lemmas.Option.{slice_get_read}
use Rattle.rb_check.specs.declared.review.Review.{Review}
use Rattle.rb_check.proofs.ReportLaws.{AreDone, all_done, none_done, one_done}
use Rattle.rb_check.proofs.paths.check_each.Goals as goal

pub reports-init : goal.reports-init
reports-init g c =
    let held = g.W.Sink.held in
    record {
      within = omega arith;
      so_far = subst (λ (r : Review). AreDone held c.args.asked.now c.args.scripts.now c.args.check.now 0 r c.args.check.now) (sym c.new-reviewer.ensures) (none_done held c.args.asked.now c.args.scripts.now c.args.check.now);
    }

pub reports-preserved : goal.reports-preserved
reports-preserved g c =
    let scripts = c.args.scripts.now in
    let done = c.reports.done in
    let script = c.index-scripts-done.result in
    let below = c.goes_on.ensures.within c.reports-test.true in
    let got : slice_get scripts done ≡ Some script = slice_get_read scripts (length scripts) done script refl (omega (arith, below)) c.index-scripts-done.is in
    let one = rw c.as_str-path.ensures.value at c.check_one.ensures.checked in
    record {
      within = omega (arith, below);
      so_far = one_done g.W.Sink.held c.args.asked.now scripts c.args.check.now done script c.reports.reviewer.review c.check_one.new.reviewer.review c.reports.check c.check_one.new.check c.reports.invariant.so_far got
          (c.goes_on.ensures.ongoing c.reports-test.true) c.check_one.ensures.unasked one.0 one.1 one.2 one.3 one.4 one.5;
    }

pub returns : goal.returns
returns g c =
    all_done g.W.Sink.held c.args.asked.now c.args.scripts.now c.args.check.now c.reports.done c.reports.reviewer.review c.reports.check c.end_review.new.check c.reports.invariant.so_far c.reports.invariant.within
    (c.goes_on.ensures.last c.reports-test.false) c.end_review.ensures.results c.end_review.ensures.shown
