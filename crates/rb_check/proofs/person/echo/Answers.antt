use Rattle.std.proofs.Common.{ℕ, List, ◌++◌, None, Some, ap}
use Rattle.std.specs.Prelude.{codes}
use Rattle.rb_check.specs.declared.report_state.ReportForm.{ReportForm}
use Rattle.rb_check.proofs.ShownLaws.{along, goes_nothing, goes_on}
use Rattle.rb_check.proofs.person.echo.Goals as goal

pub returns-then-is_empty : goal.returns-then-is_empty
returns-then-is_empty g c = (None, goes_nothing _ _)

pub returns : goal.returns
returns g c =
    (Some c.args.keys.now, along (ap (λ (l : List ℕ). l ++ codes "\n") c.visible_key.ensures) (goes_on (λ (f : ReportForm). codes "\n") c.put.ensures.shown c.put-2.ensures.shown))
