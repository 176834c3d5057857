use Rattle.std.proofs.Common.{◌≡◌, ◌∙◌, Some, refl, ap, length, arith}
use Rattle.std.specs.Prelude.{slice_get}
use Rattle.std.proofs.lemmas.Option.{slice_get_read}
use Rattle.rb_report.specs.declared.check.totals.Totals.{Totals}
use Rattle.rb_check.specs.declared.report_state.ReportForm.{ReportForm}
use Rattle.rb_check.specs.Lost.{lost_path, path_text}
use Rattle.rb_check.specs.Results.{counts_with}
use Rattle.rb_check.proofs.LostLaws.{counted_more, text_more}
use Rattle.rb_check.proofs.ShownLaws.{along, goes_on}
use Rattle.rb_check.proofs.paths.tell_each_lost.Goals as goal

pub loop-i-preserved : goal.loop-i-preserved
loop-i-preserved g c =
    let lost = c.args.lost.now in
    let i = c.loop-i.i in
    let x = c.index-lost-i.result in
    let got : slice_get lost i ≡ Some x = slice_get_read lost (length lost) i x refl (omega (arith, c.loop-i-test.true)) c.index-lost-i.is in
    record {
      counts = c.tell_one_lost.ensures.counts ∙ ap (λ (t : Totals). counts_with t (lost_path x).found) c.loop-i.invariant.counts ∙ counted_more c.args.check.now.results.counts lost i x got;
      listed = c.tell_one_lost.ensures.listed ∙ c.loop-i.invariant.listed;
      shown = along (text_more (path_text c.args.check.now.report.state.form) lost i x got) (goes_on (λ (f : ReportForm). path_text f x) c.loop-i.invariant.shown c.tell_one_lost.ensures.shown);
    }
