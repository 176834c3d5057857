use Rattle.std.proofs.Common.{ap, arith}
use Rattle.std.proofs.lemmas.List.{drop_all}
use Rattle.rb_text.proofs.SentLaws.{drop-get}
use Rattle.rb_check.specs.declared.remark.Remark.TheVariants as remarks
use Rattle.rb_check.specs.declared.report_state.ReportForm.{ReportForm}
use Rattle.rb_check.specs.Shown.{remark_text, warnings_text}
use Rattle.rb_check.proofs.ShownLaws.{gone_all, gone_more, gone_none}
use Rattle.rb_check.proofs.report.Report.warn.Goals as goal

pub loop-i-init : goal.loop-i-init
loop-i-init g c = gone_none _ _ _

pub loop-i-preserved : goal.loop-i-preserved
loop-i-preserved g c =
    let path = c.args.path.now in
    let warning = c.warning_at.result in
    gone_more (λ (f : ReportForm). remark_text f path (remarks.Warning warning)) c.loop-i.invariant
    (ap (warnings_text c.args.self.now.state.form path) (drop-get c.args.warnings.now c.loop-i.i warning c.warning_at.ensures)) c.remark.ensures.shown

pub returns : goal.returns
returns g c =
    let warnings = c.args.warnings.now in
    gone_all (ap (warnings_text c.args.self.now.state.form c.args.path.now) (drop_all c.loop-i.i warnings (omega (arith, c.loop-i-test.false)))) c.loop-i.invariant
