use Rattle.std.proofs.Common.{◌≡◌, ◌∙◌, ℕ, List, Option, subst}
use Rattle.std.specs.Prelude.{IfOk}
use Rattle.rb_check.specs.declared.kind.NoticeKind.{NoticeKind}
use Rattle.rb_check.specs.Formats.{notice_text}
use Rattle.rb_check.specs.Shown.{remark_kind, remark_line}
use Rattle.rb_check.proofs.remark.programs_text.Goals as goal

pub returns : goal.returns
returns c =
    let made = c.notice_of.result in
    let remark = c.args.remark in
    let text = notice_text c.args.format c.args.is_strict c.args.path.now in
    subst (λ (message : List ℕ). IfOk made (λ v. v.items ≡ text (remark_line remark) (remark_kind remark) message)) (c.deref.ensures.value ∙ c.in_ok-message.ensures)
    (subst (λ (kind : NoticeKind). IfOk made (λ v. v.items ≡ text (remark_line remark) kind c.deref.result.now)) c.kind.ensures
    (subst (λ (line : Option ℕ). IfOk made (λ v. v.items ≡ text line c.kind.result c.deref.result.now)) c.line.ensures c.notice_of.ensures))
