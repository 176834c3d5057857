use Rattle.std.proofs.Common.{◌≡◌, ◌∙◌, ℕ, List, Option, Some, None, drop, sym, ap}
use Rattle.std.specs.Option.{ok_or}
use Rattle.rb_script.specs.declared.fault.ScriptFault.TheVariants.{NotClosed}
use Rattle.rb_script.specs.Lines.{Line}
use Rattle.rb_script.specs.Found.{seen}
use Rattle.rb_script.specs.Results.{Gives}
use Rattle.rb_script.specs.Expectations.{Expectation, expectation_at}
use Rattle.rb_script.specs.Blocks.{closed_or}
use Rattle.rb_script.proofs.ReadingLaws.{double_at, plain_there}
use Rattle.rb_script.proofs.reading.expectation.Goals as goal
use Rattle.rb_script.proofs.reading.expectation.Goals.{in-Some+in_ok-found-in-Some, in-None+in_ok-found-in-None}

-- what isn't there isn't closed
closes : (all : List Line) (n : ℕ) (found : Option (List Line × ℕ)) (there : Expectation) → seen all found ≡ there
    → Gives (λ p. (p.0, drop p.1 all)) (ok_or found (NotClosed n)) (closed_or (NotClosed n) there)
closes all n None there is = sym (ap (closed_or (NotClosed n)) is)
closes all n (Some found) there is = sym (ap (closed_or (NotClosed n)) is)

pub returns-clause-found : goal.returns-clause-found
returns-clause-found c =
    let all = c.args.all.now in
    let start = c.args.start in
    rw c.ok_or.ensures.value
    (closes all start c.match-after_rule.found (expectation_at (drop start all)) (elim c.match-after_rule.branch [
      | in-Some+in_ok-found-in-Some w ↦ ap (seen all) w.found-is ∙ w.in_ok-found-in-Some.ensures.found ∙ double_at all start w.in-Some.after w.in-Some.ensures.found.0 w.in-Some.ensures.found.1
      | in-None+in_ok-found-in-None w ↦ ap (seen all) w.found-is ∙ w.in_ok-found-in-None.ensures.found ∙ plain_there (drop start all) w.in-None.ensures.none
    ]))
