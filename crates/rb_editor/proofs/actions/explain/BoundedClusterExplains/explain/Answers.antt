use Rattle.std.proofs.Common.{◌∙◌, ap}
use Rattle.rb_script.specs.Tokens.{plain}
use Rattle.rb_machine.specs.Observers.{Watched}
use Rattle.rb_machine.specs.Outcome.{execution}
use Rattle.rb_editor.proofs.WhyLaws.{reasons_are}
use Rattle.rb_editor.proofs.actions.explain.BoundedClusterExplains.explain.Goals as goal

pub returns-clause-reasons : goal.returns-clause-reasons
returns-clause-reasons c =
    c.in_ok-all.ensures
    ∙ reasons_are c.new-reasons.result c.run_watched.new.observer (execution c.args.self.cluster (plain c.args.directive.now)) c.new-reasons.ensures.above c.new-reasons.ensures.has_begun c.new-reasons.ensures.last
    (ap (λ (w : Watched _). w.by) c.in_ok-run_watched.ensures)
