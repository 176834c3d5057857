use Rattle.std.proofs.Common.{◌≡◌, ◌∙◌, List, Option, ap₂, subst, sym, rules}
use Rattle.std.proofs.lemmas.Option.{IfSome_then}
use Rattle.rb_script.specs.Lines.{Line}
use Rattle.rb_script.specs.Reading.{directive_of}
use Rattle.rb_node.specs.Node.{PlainNode}
use Rattle.rb_machine.specs.Cluster.{Cluster}
use Rattle.rb_machine.specs.Outcome.{execution}
use Rattle.rb_view.specs.Committed.{AreKept}
use Rattle.rb_view.specs.Kept.{texts_of}
use Rattle.rb_view.specs.PageRoom.{held_with}
use Rattle.rb_view.specs.Rows.{Row}
use Rattle.rb_view.specs.States.{state_rows}
use Rattle.rb_view.specs.Steps.{changes_left}
use Rattle.rb_view.specs.Values.{ShowBytes}
use Rattle.rb_view.specs.Watching.{observed_texts, written_last}
use Rattle.rb_view.proofs.GoneOnLaws.{kept_after}
use Rattle.rb_view.proofs.PageRoomLaws.{held_more}
use Rattle.rb_view.proofs.steps.step.ClusterStepMachine.run_on_copy.Goals as goal

pub returns-clause-rows : goal.returns-clause-rows
returns-clause-rows g c =
    let before = c.args.self.now in
    let d = directive_of c.args.block.now in
    let written : c.deref.result.now ≡ c.in_ok-ran.ran.nodes.items = search rules in
    c.in_ok-rows.ensures.texts
    ∙ ap₂ (λ (ts : Option (List Line)) (rs : List Row). held_with ts (texts_of rs)) c.in_ok-ran.ensures.texts
    (ap₂ (λ (olds : List PlainNode) (x : Cluster). state_rows olds x.nodes) (written ∙ c.in_ok-ran.ensures.nodes) c.in_ok-ran.ensures.cluster)
    ∙ held_more (observed_texts before.nodes (execution before d).observed) (texts_of (changes_left before d))

pub returns-clause-bytes : goal.returns-clause-bytes
returns-clause-bytes g c =
    IfSome_then c.in_ok-rows.rows c.in_ok-rows.ensures.bytes
    (λ rows shown. (c.in_ok-ran.ensures.bytes, subst (λ (x : Cluster). ShowBytes x.nodes) c.in_ok-ran.ensures.cluster shown))

pub with_changes-requires : goal.with_changes-requires
with_changes-requires g c keeps =
    let d = directive_of c.args.block.now in
    let written : c.deref.result.now ≡ c.in_ok-ran.ran.nodes.items = search rules in
    subst (λ (ns : List PlainNode). AreKept ns c.in_ok-ran.ran.cluster.nodes) (sym (written ∙ c.in_ok-ran.ensures.nodes))
    (subst (λ (x : Cluster). AreKept (written_last c.args.self.now.nodes (execution c.args.self.now d).observed) x.nodes) (sym c.in_ok-ran.ensures.cluster) (kept_after c.args.self.now d (sym c.in_ok-ran.ensures.keeps ∙ keeps)))
