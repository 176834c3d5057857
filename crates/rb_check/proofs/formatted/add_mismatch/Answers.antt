use Rattle.std.proofs.Common.{◌≡◌, ◌∙◌, ℕ, ◌+◌, ◌-◌, ◌++◌, List, Option, Some, length, ap, sym, arith}
use Rattle.std.specs.Prelude.{slice_get}
use Rattle.rb_replay.specs.Report.{mismatches}
use Rattle.rb_check.specs.Formats.{command_if, differing_command}
use Rattle.rb_check.specs.Subjects.{PlainRan, plain_of, plain_ran, runs_of}
use Rattle.rb_check.proofs.FormatLaws.{added_is}
use Rattle.rb_check.proofs.formatted.add_mismatch.Goals as goal

pub returns : goal.returns
returns g c =
    let about = plain_of c.args.subject.now in
    let ran = c.directive_at.result in
    let others = length (mismatches about.script) - 1 in
    let there : c.args.index ≡ c.args.index + 1 - 1 = omega arith in
    let got : Some (plain_ran ran) ≡ slice_get (runs_of about) (c.args.index + 1 - 1) = sym c.directive_at.ensures.run ∙ ap (slice_get (runs_of about)) there in
    added_is c.add_differing.result c.add_differing.new.text.items _ _ c.add_differing.ensures
    (ap (λ (n : ℕ). c.args.text.now.items ++ differing_command ran.place.path.now n (plain_ran ran)) c.others_of-others.ensures
    ∙ ap (λ (path : List ℕ). c.args.text.now.items ++ differing_command path others (plain_ran ran)) c.directive_at.ensures.path
    ∙ ap (λ (run : Option PlainRan). c.args.text.now.items ++ command_if about.path others run) got)
