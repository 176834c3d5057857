use Rattle.std.proofs.Common.{◌∙◌, Bool, [], ap, sym}
use Rattle.std.specs.Prelude.{if◌then◌else◌}
use Rattle.rb_check.specs.declared.remark.Remark.TheVariants as remarks
use Rattle.rb_check.specs.Shown.{remark_text}
use Rattle.rb_check.proofs.AcceptLaws.{echoes_if}
use Rattle.rb_check.proofs.ShownLaws.{along, goes_nothing}
use Rattle.rb_check.proofs.accepting.tell_echoes.Goals as goal

pub returns-then-has_below : goal.returns-then-has_below
returns-then-has_below g c =
    let form = c.args.report.now.state.form in
    let path = c.args.path.now in
    let text = remark_text form path (remarks.Echoes c.in-UpTo.line) in
    along (sym (echoes_if form path c.args.picked c.in-UpTo.line c.args.left.now c.has_below.result c.in-UpTo.is c.has_below.ensures ∙ ap (λ (b : Bool). if b then text else []) c.if-has_below.true)) c.remark.ensures.shown

pub returns-else-has_below : goal.returns-else-has_below
returns-else-has_below g c =
    let form = c.args.report.now.state.form in
    let path = c.args.path.now in
    let text = remark_text form path (remarks.Echoes c.in-UpTo.line) in
    along (sym (echoes_if form path c.args.picked c.in-UpTo.line c.args.left.now c.has_below.result c.in-UpTo.is c.has_below.ensures ∙ ap (λ (b : Bool). if b then text else []) c.if-has_below.false)) (goes_nothing _ _)
