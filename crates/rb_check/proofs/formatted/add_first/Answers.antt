use Rattle.std.proofs.Common.{ℕ, ◌+◌, ◌++◌, List, ap}
use Rattle.rb_replay.specs.Report.{mismatches}
use Rattle.rb_script_report.proofs.ShownLaws.{of_first-is}
use Rattle.rb_check.specs.Formats.{mismatch_command}
use Rattle.rb_check.specs.Subjects.{plain_of}
use Rattle.rb_check.proofs.FormatLaws.{added_is}
use Rattle.rb_check.proofs.formatted.add_first.Goals as goal

pub returns-in-Some : goal.returns-in-Some
returns-in-Some g c =
    let subject = c.args.subject.now in
    let s = subject.session.now.script in
    let command : ℕ → List ℕ = mismatch_command (plain_of subject) in
    added_is c.add_mismatch.result c.add_mismatch.new.text.items _ _ c.add_mismatch.ensures
    (ap (λ (text : List ℕ). c.args.text.now.items ++ text) (of_first-is command (c.in-Some.index + 1) (mismatches s) c.in-Some.ensures.some))
