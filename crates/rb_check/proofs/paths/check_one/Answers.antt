use Rattle.std.proofs.Common.{ℕ, List, [], ◌++◌, refl, ap, append-nil}
use Rattle.rb_check.specs.declared.remark.Remark.TheVariants as remarks
use Rattle.rb_check.specs.declared.report_state.ReportForm.{ReportForm}
use Rattle.rb_check.specs.declared.script_result.PathResult.TheVariants as paths
use Rattle.rb_check.specs.Reported.{reported, failed}
use Rattle.rb_check.specs.Shown.{remark_text}
use Rattle.rb_check.proofs.ReportLaws.{lists_none}
use Rattle.rb_check.proofs.ShownLaws.{along, goes_on}
use Rattle.rb_check.proofs.paths.check_one.Goals as goal

pub returns-in-Ok-clause-checked : goal.returns-in-Ok-clause-checked
returns-in-Ok-clause-checked g c =
    let said = c.in-Ok.ensures.reported in
    (c.in-Ok.found, said.0, reported said.1, c.add.ensures.counts, c.add.ensures.listed, along (append-nil said.0) (goes_on (λ (f : ReportForm). []) said.2 c.add.ensures.shown))

pub returns-in-Err-clause-checked : goal.returns-in-Err-clause-checked
returns-in-Err-clause-checked g c =
    let failure = c.in-Err.error.failure in
    let part = c.in-Err.ensures.part in
    let notice = λ (f : ReportForm). remark_text f c.args.path.now (remarks.Failed failure) in (
      paths.Failed failure,
      part.text ++ notice c.args.check.now.report.state.form,
      failed c.in-Err.error part.text c.in-Err.ensures.fails refl refl,
      c.fail.ensures.counts,
      lists_none c.fail.new.self.report.state c.args.check.now.results.differing.items c.fail.new.self.results.differing.items c.fail.ensures.listed,
      goes_on notice part.out (along (ap (λ (p : List ℕ). remark_text c.check_script.new.report.state.form p (remarks.Failed failure)) c.as_bytes.ensures.value) c.fail.ensures.shown),
    )
