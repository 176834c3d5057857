use Rattle.std.proofs.Common.{◌≡◌, ◌++◌, ℕ, Option, sym, subst, subst₂}
use Rattle.std.specs.Prelude.{OnOk}
use Rattle.rb_node.specs.Node.{PlainNode}
use Rattle.rb_view.specs.Kept.{texts_of}
use Rattle.rb_view.specs.States.{changed_since, node_since}
use Rattle.rb_view.proofs.steps.node.keep_node_at.Goals as goal

pub returns-in-Some : goal.returns-in-Some
returns-in-Some g c =
    subst₂ (λ (old : Option PlainNode) (new : PlainNode). OnOk c.keep_if_changed.result (c.keep_if_changed.new.texts ≡ c.args.texts.now ++ texts_of (node_since c.args.keeps old new)))
    (sym c.in-Some.ensures) c.status.ensures
    (subst (λ (index : ℕ). OnOk c.keep_if_changed.result (c.keep_if_changed.new.texts ≡ c.args.texts.now ++ texts_of (changed_since index c.in-Some.old.now c.status.result.now))) c.known.ensures
    c.keep_if_changed.ensures)

pub returns-in-None : goal.returns-in-None
returns-in-None g c =
    subst₂ (λ (old : Option PlainNode) (new : PlainNode). OnOk c.keep_added.result (c.keep_added.new.texts ≡ c.args.texts.now ++ texts_of (node_since c.args.keeps old new)))
    (sym c.in-None.ensures) c.status-in-None.ensures c.keep_added.ensures
