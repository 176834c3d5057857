use Rattle.std.proofs.Common.{◌≡◌, ◌∙◌, ◌++◌, ℕ, List, ap}
use Rattle.rb_script.specs.Lines.{Line}
use Rattle.rb_script_report.specs.Checked.{head_of}
use Rattle.rb_check.specs.Objects.{lines_members, object_end}
use Rattle.rb_check.specs.Subjects.{plain_ran}
use Rattle.rb_text.proofs.AddedLaws.{two_parts}
use Rattle.rb_check.proofs.object.add_object.Goals as goal

pub returns : goal.returns
returns c =
    let ran = c.args.ran in
    let d = plain_ran ran in
    let head : c.as_slice.result.now ≡ head_of d.block = c.as_slice.ensures.value ∙ c.in_ok-head.ensures in
    let members : List ℕ → List Line → List ℕ = λ h es. lines_members ran.place.path.now d.line h c.args.status.now es d.output in
    let said : List ℕ → List Line → List ℕ = λ h es. c.args.text.now.items ++ (members h es ++ object_end d.why) in
    two_parts c.args.text.now.items c.add_lines.new.text.items c.add_end.new.text.items
    (members c.as_slice.result.now c.expected-expected.result.now) (object_end d.why)
    c.in_ok-add_lines.ensures c.in_ok-add_end.ensures
    ∙ ap (λ (h : List ℕ). said h c.expected-expected.result.now) head
    ∙ ap (λ (es : List Line). said (head_of d.block) es) c.expected-expected.ensures
