use Rattle.std.proofs.Common.{◌∙◌, ◌++◌, List, ap, subst, sym}
use Rattle.rb_node.specs.Node.{PlainNode}
use Rattle.rb_view.specs.Committed.{AreKept}
use Rattle.rb_view.specs.Kept.{texts_of}
use Rattle.rb_view.specs.States.{state_rows}
use Rattle.rb_view.specs.Values.{ShowBytes}
use Rattle.rb_view.proofs.steps.step.keep_changes.Goals as goal

pub returns-clause-bytes : goal.returns-clause-bytes
returns-clause-bytes g c = subst ShowBytes c.nodes.ensures c.in_ok-keep_states.ensures.bytes

pub returns-clause-texts : goal.returns-clause-texts
returns-clause-texts g c = c.in_ok-keep_states.ensures.texts ∙ ap (λ (news : List PlainNode). c.args.texts.now ++ texts_of (state_rows c.args.written.now news)) c.nodes.ensures

pub keep_states-requires : goal.keep_states-requires
keep_states-requires g c keeps = subst (AreKept c.args.written.now) (sym c.nodes.ensures) (c.requires keeps)
