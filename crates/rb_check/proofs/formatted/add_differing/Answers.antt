use Rattle.std.proofs.Common.{◌∙◌, ◌++◌, ℕ, ap}
use Rattle.rb_script_report.specs.Checked.{head_of}
use Rattle.rb_check.specs.Commands.{difference_text}
use Rattle.rb_check.specs.Subjects.{plain_ran}
use Rattle.rb_check.proofs.formatted.add_differing.Goals as goal

pub returns : goal.returns
returns c =
    let ran = plain_ran c.args.ran in
    c.in_ok-add_difference.ensures
    ∙ ap (λ (n : ℕ). c.args.text.now.items ++ difference_text n c.args.ran.place.path.now ran.line (head_of ran.block) ran.block.expected ran.output ran.why c.args.others) c.in_ok-table.ensures
