use Rattle.std.proofs.Common.{◌≡◌, ◌∙◌, ℕ, List, [], ◌++◌, ap, sym}
use Rattle.rb_check.specs.declared.report_state.ReportForm.{ReportForm}
use Rattle.rb_check.specs.AcceptTexts.{echoes_text, left_in, left_shown}
use Rattle.rb_check.specs.Shown.{left_text}
use Rattle.rb_check.specs.Subjects.{plain_of}
use Rattle.rb_check.proofs.AcceptLaws.{leaves_none}
use Rattle.rb_check.proofs.ShownLaws.{along, goes_nothing, goes_on, none_there}
use Rattle.rb_check.proofs.accepting.leave.Goals as goal

pub returns-then-is_empty : goal.returns-then-is_empty
returns-then-is_empty g c =
    let about = plain_of c.args.subject.now in
    let none : left_in c.args.wanted about ≡ [] = sym c.requires.left ∙ none_there c.args.left.now (sym c.is_empty.ensures ∙ c.if-is_empty.true) in
    along (sym (leaves_none c.args.report.now.state.form c.args.wanted about none)) (goes_nothing _ _)

pub returns : goal.returns
returns g c =
    let about = plain_of c.args.subject.now in
    let wanted = c.args.wanted in
    let path = c.as_bytes-path.result.now in
    let form = c.args.report.now.state.form in
    let left = c.args.left.now in
    let text = λ (p xs : List ℕ). left_text form p wanted.picked xs ++ (left_shown form wanted about ++ echoes_text form p wanted.picked xs) in
    along (ap (λ (p : List ℕ). text p left) c.as_bytes-path.ensures.value ∙ ap (text c.args.subject.now.path.now) c.requires.left)
    (goes_on (λ (f : ReportForm). left_shown f wanted about ++ echoes_text f path wanted.picked left) c.leave_each.ensures
    (goes_on (λ (f : ReportForm). echoes_text f path wanted.picked left) c.tell_left.ensures c.tell_echoes.ensures))
