-- What is added so far, and what is still to come.
use Rattle.std.proofs.Common.{◌≡◌, ◌++◌, drop}
use Rattle.std.specs.List.{flat_map}
use Rattle.rb_check.specs.Formats.{error_command, errors_of}
use Rattle.rb_check.specs.Subjects.{plain_of, runs_of}
use Rattle.rb_check.proofs.formatted.add_errors.Given as goal

abbrev pub invariant-loop-i : goal.invariant-loop-i
invariant-loop-i g l =
    let c = plain_of l.subject in
    l.text.items ++ flat_map (error_command l.is_strict c.layout.text c.path) (drop l.i (runs_of c)) ≡ l.initial.text.items ++ errors_of l.is_strict c
