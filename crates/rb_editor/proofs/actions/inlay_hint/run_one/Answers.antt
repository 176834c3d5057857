use Rattle.rb_script.specs.Tokens.{plain}
use Rattle.rb_editor.proofs.HoverLaws.{runs_next}
use Rattle.rb_editor.proofs.actions.inlay_hint.run_one.Goals as goal

pub returns-clause-machine : goal.returns-clause-machine
returns-clause-machine g c =
    runs_next c.args.session.now.script c.args.index c.block_at-block.result.now (plain c.directive.result) (g.M.Machine.meaning c.args.machine) (g.M.Machine.meaning c.in_ok-next.next) c.block_at-block.ensures c.requires.before
    c.directive.ensures.whole c.in_ok-next.ensures.cluster
