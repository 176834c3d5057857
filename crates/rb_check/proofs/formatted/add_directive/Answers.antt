use Rattle.std.proofs.Common.{◌≡◌, ◌∙◌, Bool, true, false, List, [], ℕ, ◌++◌, ap, sym}
use Rattle.std.specs.Prelude.{codes, if◌then◌else◌}
use Rattle.rb_script.specs.Lines.{Line}
use Rattle.rb_replay.specs.Report.{same_lines}
use Rattle.rb_script_report.specs.Errors.{is_unexpected}
use Rattle.rb_check.specs.Objects.{object_text}
use Rattle.rb_check.specs.Subjects.{plain_ran}
use Rattle.rb_check.proofs.FormatLaws.{added_is}
use Rattle.rb_check.proofs.formatted.add_directive.Goals as goal

pub returns-then-not-is_same : goal.returns-then-not-is_same
returns-then-not-is_same c =
    let d = plain_ran c.args.ran in
    let object : List ℕ → List ℕ = λ status. object_text c.args.ran.place.path.now status d in
    let same : same_lines d.block.expected d.output ≡ false = ap (λ (es : List Line). same_lines es d.output) (sym c.expected.ensures) ∙ sym c.is_same.ensures ∙ c.if-not-is_same.true in
    added_is c.add_object.result c.add_object.new.text.items _ _ c.add_object.ensures
    (ap (λ (text : List ℕ). c.args.text.now.items ++ text) (sym (ap (λ (t : Bool). if t then (if is_unexpected c.args.lines.now d.line d.output then object (codes "error") else []) else object (codes "mismatch")) same)))

pub returns-then-is_unexpected : goal.returns-then-is_unexpected
returns-then-is_unexpected c =
    let d = plain_ran c.args.ran in
    let object : List ℕ → List ℕ = λ status. object_text c.args.ran.place.path.now status d in
    let same : same_lines d.block.expected d.output ≡ true = ap (λ (es : List Line). same_lines es d.output) (sym c.expected.ensures) ∙ sym c.is_same.ensures ∙ c.if-not-is_same.false in
    let new : is_unexpected c.args.lines.now d.line d.output ≡ true = sym c.is_unexpected.ensures ∙ c.if-is_unexpected.true in
    added_is c.add_object-then-is_unexpected.result c.add_object-then-is_unexpected.new.text.items _ _ c.add_object-then-is_unexpected.ensures
    (ap (λ (text : List ℕ). c.args.text.now.items ++ text) (sym (ap (λ (t : Bool). if t then (if is_unexpected c.args.lines.now d.line d.output then object (codes "error") else []) else object (codes "mismatch")) same
    ∙ ap (λ (t : Bool). if t then object (codes "error") else []) new)))
