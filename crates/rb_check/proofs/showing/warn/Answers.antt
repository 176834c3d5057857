use Rattle.std.proofs.Common.{◌∙◌, ℕ, Bool, List, [], ap, sym}
use Rattle.std.specs.Prelude.{if◌then◌else◌}
use Rattle.rb_check.specs.Shown.{warnings_text}
use Rattle.rb_check.specs.Subjects.{plain_of, warnings_in}
use Rattle.rb_check.proofs.ShownLaws.{along, goes_nothing}
use Rattle.rb_check.proofs.showing.warn.Goals as goal

pub returns-then-warns : goal.returns-then-warns
returns-then-warns g c =
    let subject = c.args.subject.now in
    let text = warnings_text c.args.report.now.state.form in
    let ws = warnings_in (plain_of subject) in
    along (ap (λ (p : List ℕ). text p subject.warnings.now) c.as_bytes.ensures.value ∙ ap (text subject.path.now) c.requires.warnings ∙ sym (ap (λ (b : Bool). if b then text subject.path.now ws else []) (sym c.warns.ensures ∙ c.if-warns.true))) c.warn.ensures

pub returns-else-warns : goal.returns-else-warns
returns-else-warns g c =
    let subject = c.args.subject.now in
    let text = warnings_text c.args.report.now.state.form subject.path.now (warnings_in (plain_of subject)) in
    along (sym (ap (λ (b : Bool). if b then text else []) (sym c.warns.ensures ∙ c.if-warns.false))) (goes_nothing _ _)
