use Rattle.std.proofs.Common.{◌∙◌, Bool, [], ap, sym}
use Rattle.std.specs.Prelude.{if◌then◌else◌}
use Rattle.rb_check.specs.declared.remark.Remark.TheVariants as remarks
use Rattle.rb_check.specs.Shown.{remark_text}
use Rattle.rb_check.proofs.ShownLaws.{along, goes_nothing}
use Rattle.rb_check.proofs.accepting.leave_one.Goals as goal

pub returns-then-is_picked : goal.returns-then-is_picked
returns-then-is_picked g c =
    let text = remark_text c.args.report.now.state.form c.args.path.now (remarks.Left c.args.line) in
    along (sym (ap (λ (b : Bool). if b then text else []) (sym c.is_picked.ensures ∙ c.if-is_picked.true))) c.remark.ensures.shown

pub returns-else-is_picked : goal.returns-else-is_picked
returns-else-is_picked g c =
    let text = remark_text c.args.report.now.state.form c.args.path.now (remarks.Left c.args.line) in
    along (sym (ap (λ (b : Bool). if b then text else []) (sym c.is_picked.ensures ∙ c.if-is_picked.false))) (goes_nothing _ _)
