use Rattle.std.proofs.Common.{◌∙◌, sym}
use Rattle.rb_editor.proofs.HintLaws.{with_all}
use Rattle.rb_editor.proofs.actions.leadership.with_nodes.Goals as goal

pub returns : goal.returns
returns g c = sym (with_all c.loop-shared.known c.args.nodes.now c.loop-shared.shared-index c.loop-shared-test.false) ∙ c.loop-shared.invariant
