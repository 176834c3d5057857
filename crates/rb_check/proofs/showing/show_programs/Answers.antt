use Rattle.std.proofs.Common.{◌∙◌}
use Rattle.rb_check.proofs.ShownLaws.{along}
use Rattle.rb_check.proofs.showing.show_programs.Goals as goal

pub returns-clause-shown : goal.returns-clause-shown
returns-clause-shown g c = along (c.deref.ensures.value ∙ c.in_ok-text.ensures) c.put.ensures.shown
