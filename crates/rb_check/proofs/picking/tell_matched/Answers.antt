use Rattle.std.proofs.Common.{◌≡◌, ◌∙◌, ℕ, Bool, true, false, List, [], ap, sym}
use Rattle.std.specs.Prelude.{◌==◌, if◌then◌else◌}
use Rattle.std.specs.List.{list_any}
use Rattle.rb_replay.specs.Report.{mismatches}
use Rattle.rb_check.specs.declared.remark.Remark.TheVariants as remarks
use Rattle.rb_check.specs.Shown.{remark_text}
use Rattle.rb_check.proofs.ShownLaws.{along, goes_nothing}
use Rattle.rb_check.proofs.picking.tell_matched.Goals as goal

pub returns-then-not-contains : goal.returns-then-not-contains
returns-then-not-contains g c =
    let place = c.args.place in
    let text = λ (path : List ℕ). remark_text c.args.report.now.state.form path (remarks.Matches c.args.head) in
    let path = c.args.subject.now.path.now in
    let none : list_any (λ k. k == place) (mismatches c.args.subject.now.session.now.script) ≡ false = sym (ap (λ (ks : List ℕ). list_any (λ k. k == place) ks) c.mismatches.ensures) ∙ sym c.contains.ensures.value ∙ c.if-not-contains.true in
    along (ap text c.as_bytes.ensures.value ∙ sym (ap (λ (b : Bool). if b then [] else text path) none)) c.remark.ensures.shown

pub returns-else-not-contains : goal.returns-else-not-contains
returns-else-not-contains g c =
    let place = c.args.place in
    let text = remark_text c.args.report.now.state.form c.args.subject.now.path.now (remarks.Matches c.args.head) in
    let one : list_any (λ k. k == place) (mismatches c.args.subject.now.session.now.script) ≡ true = sym (ap (λ (ks : List ℕ). list_any (λ k. k == place) ks) c.mismatches.ensures) ∙ sym c.contains.ensures.value ∙ c.if-not-contains.false in
    along (sym (ap (λ (b : Bool). if b then [] else text) one)) (goes_nothing _ _)
