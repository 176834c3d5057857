use Rattle.std.proofs.Common.{◌∙◌, ap}
use Rattle.rb_script.specs.Tokens.{plain}
use Rattle.rb_machine.specs.Outcome.{execution, shown_items, is_output}
use Rattle.rb_cluster.proofs.OutcomeLaws.{lines_are_output}
use Rattle.rb_editor.proofs.actions.bounded.BoundedClusterMachine.run.Goals as goal

pub returns-clause-shape : goal.returns-clause-shape
returns-clause-shape c =
    let h = execution c.args.self.cluster (plain c.args.directive) in
    ap is_output c.in_ok-output.ensures.output ∙ lines_are_output h.level (shown_items h)
