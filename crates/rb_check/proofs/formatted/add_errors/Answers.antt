use Rattle.std.proofs.Common.{◌∙◌, ℕ, List, ◌++◌, arith, ap}
use Rattle.rb_check.specs.Formats.{error_command, errors_of}
use Rattle.rb_check.specs.Subjects.{plain_of, plain_ran, runs_of}
use Rattle.rb_check.proofs.RunLaws.{each_all, each_more, runs_end}
use Rattle.rb_check.proofs.formatted.add_errors.Goals as goal

pub loop-i-preserved : goal.loop-i-preserved
loop-i-preserved g c =
    let about = plain_of c.args.subject.now in
    let ran = plain_ran c.directive_at.result in
    let named : List ℕ → List ℕ = λ path. c.loop-i.text.items ++ error_command c.args.is_strict about.layout.text path ran in
    each_more (error_command c.args.is_strict about.layout.text about.path) (runs_of about) c.loop-i.i ran c.loop-i.text.items c.add_error.new.text.items (c.args.text.now.items ++ errors_of c.args.is_strict about)
    c.directive_at.ensures.run (c.in_ok-add_error.ensures ∙ ap named c.directive_at.ensures.path) c.loop-i.invariant

pub returns : goal.returns
returns g c =
    let about = plain_of c.args.subject.now in
    each_all (error_command c.args.is_strict about.layout.text about.path) (runs_of about) c.loop-i.i c.loop-i.text.items (c.args.text.now.items ++ errors_of c.args.is_strict about)
    (runs_end about c.loop-i.i (omega (arith, c.loop-i-test.false, c.len-i-end.ensures.len))) c.loop-i.invariant
