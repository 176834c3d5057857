use Rattle.std.proofs.Common.{◌∙◌, ◌+◌, Bool, drop, ap, sym}
use Rattle.rb_editor.specs.Selections.{inside_of}
use Rattle.rb_editor.proofs.SelectionLaws.{inside_all, inside_more}
use Rattle.rb_editor.proofs.actions.piece.inside_of.Goals as goal

pub loop-b-preserved : goal.loop-b-preserved
loop-b-preserved c =
    ap (λ (t : Bool). inside_of t (drop (c.loop-b.b-index + 1) c.args.bytes.now)) c.inside_after-inside.ensures
    ∙ inside_more c.loop-b.inside c.args.bytes.now c.loop-b.b-index 0 c.loop-b-test.true
    ∙ c.loop-b.invariant

pub returns : goal.returns
returns c = sym (inside_all c.loop-b.inside c.args.bytes.now c.loop-b.b-index c.loop-b-test.false) ∙ c.loop-b.invariant
