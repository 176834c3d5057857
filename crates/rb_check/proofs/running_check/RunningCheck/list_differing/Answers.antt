use Rattle.std.proofs.Common.{ap}
use Rattle.rb_check.specs.Shown.{list_text}
use Rattle.rb_check.proofs.ShownLaws.{along}
use Rattle.rb_check.proofs.running_check.RunningCheck.list_differing.Goals as goal

pub returns-then-lists_differing-clause-shown : goal.returns-then-lists_differing-clause-shown
returns-then-lists_differing-clause-shown g c = rw c.if-lists_differing.true (along (ap list_text c.deref.ensures.value) c.show.ensures.shown)
