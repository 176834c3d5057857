use Rattle.std.proofs.Common.{◌≡◌, ◌∙◌, true, false, sym}
use Rattle.rb_check.proofs.report.Report.lose_output.Goals as goal

pub returns-then-self-clause-state : goal.returns-then-self-clause-state
returns-then-self-clause-state g c = λ is_open. let no : true ≡ false = sym c.if-self.true ∙ is_open in absurd cc

pub returns-then-not-is_reader_gone-clause-state : goal.returns-then-not-is_reader_gone-clause-state
returns-then-not-is_reader_gone-clause-state g c = λ is_open. c.close.ensures

pub returns-else-not-is_reader_gone-clause-state : goal.returns-else-not-is_reader_gone-clause-state
returns-else-not-is_reader_gone-clause-state g c = λ is_open. c.close.ensures
