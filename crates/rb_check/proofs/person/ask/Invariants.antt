-- The report has the same outcomes, and no line so far was an answer.
use Rattle.std.proofs.Common.{◌≡◌, ◌-◌, ◌+◌, ◌^◌, ◌≤◌, ℕ, List, Option, length}
use Rattle.std.specs.List.{flat_map}
use Rattle.rb_check.specs.Asking.{missed_text}
use Rattle.rb_check.specs.Reviews.{answered, after_answer}
use Rattle.rb_check.specs.Shown.{GoesOut}
use Rattle.rb_check.proofs.person.ask.Given as goal

abbrev pub invariant-loop-turns : goal.invariant-loop-turns
invariant-loop-turns g l =
    let is_known = g.P.Person.is_known in
    let left = g.P.Person.left in
    let held = g.W.Sink.held in
    record {
      known : is_known l.fn.person → is_known l.person;
      same : is_known l.fn.person → answered (left l.person) ≡ answered (left l.fn.person);
      rest : is_known l.fn.person → after_answer (left l.person) ≡ after_answer (left l.fn.person);
      few : is_known l.fn.person → length (left l.person) + l.turns ≤ length (left l.fn.person);
      most : l.turns ≤ 2 ^ 64 - 1;
      asked : (missed : List (Option (List ℕ))) × (length missed ≡ l.turns) × GoesOut l.fn.report.state l.report.state (held l.fn.report.output) (held l.report.output) (flat_map (missed_text l.question) missed);
    }

abbrev pub decreases-loop-turns : goal.decreases-loop-turns
decreases-loop-turns g l = 18446744073709551615 - l.turns
