use Rattle.std.proofs.Common.{ap, arith}
use Rattle.std.proofs.lemmas.List.{drop_all}
use Rattle.rb_text.proofs.SentLaws.{drop-get}
use Rattle.rb_check.specs.declared.report_state.ReportForm.{ReportForm}
use Rattle.rb_check.specs.Shown.{left_one, left_text}
use Rattle.rb_check.proofs.ShownLaws.{gone_all, gone_more, gone_none}
use Rattle.rb_check.proofs.accepting.leave_each.Goals as goal

pub loop-i-init : goal.loop-i-init
loop-i-init g c = gone_none _ _ _

pub loop-i-preserved : goal.loop-i-preserved
loop-i-preserved g c =
    let path = c.args.path.now in
    let line = c.number_at.result in
    gone_more (λ (f : ReportForm). left_one f path c.args.picked line) c.loop-i.invariant
    (ap (left_text c.args.report.now.state.form path c.args.picked) (drop-get c.args.left.now c.loop-i.i line c.number_at.ensures)) c.leave_one.ensures

pub returns : goal.returns
returns g c =
    let left = c.args.left.now in
    gone_all (ap (left_text c.args.report.now.state.form c.args.path.now c.args.picked) (drop_all c.loop-i.i left (omega (arith, c.loop-i-test.false)))) c.loop-i.invariant
