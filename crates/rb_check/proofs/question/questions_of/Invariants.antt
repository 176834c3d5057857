-- The questions so far, and those still to come.
use Rattle.std.proofs.Common.{◌≡◌, ◌++◌, drop}
use Rattle.std.specs.List.{flat_map}
use Rattle.rb_check.specs.Reviews.{question_of, questions_of}
use Rattle.rb_check.specs.Subjects.{plain_of, runs_of}
use Rattle.rb_check.proofs.question.questions_of.Given as goal

abbrev pub invariant-loop-i : goal.invariant-loop-i
invariant-loop-i g l =
    let c = plain_of l.subject in
    l.questions.items ++ flat_map (question_of l.asked.accepts_errors l.picked c.layout.text) (drop l.i (runs_of c)) ≡ questions_of l.asked l.picked c
