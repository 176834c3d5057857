use Rattle.std.proofs.Common.{◌∙◌, ℕ, List, ap}
use Rattle.rb_check.specs.declared.remark.Remark.TheVariants as remarks
use Rattle.rb_check.specs.declared.report_state.ReportState.{ReportState}
use Rattle.rb_check.specs.Shown.{remark_text}
use Rattle.rb_check.proofs.ShownLaws.{along, goes_heeded}
use Rattle.rb_check.proofs.paths.tell_one_lost.Goals as goal

pub returns-clause-shown : goal.returns-clause-shown
returns-clause-shown g c =
    let lost = c.args.lost.now in
    let remark = remarks.Failed lost.error.failure in
    along (ap (λ (p : List ℕ). remark_text c.heed.new.self.state.form p remark) c.deref-2.ensures.value ∙ ap (λ (v : ReportState). remark_text v.form lost.path.items remark) c.heed.ensures.state)
    (goes_heeded c.heed.ensures.state c.heed.ensures.held c.fail.ensures.shown)
