use Rattle.std.proofs.Common.{◌∙◌, ℕ, List, subst, arith}
use Rattle.std.specs.Prelude.{slice_get, Some, ◌≡◌}
use Rattle.rb_replay.specs.Run.{outputs}
use Rattle.rb_editor.specs.Heads.{heads_of}
use Rattle.rb_editor.proofs.ActionLaws.{edits_last, edits_more}
use Rattle.rb_editor.proofs.FindingLaws.{stands_by}
use Rattle.rb_editor.proofs.actions.action.edits.Goals as goal

pub add_one-requires-clause-stands : goal.add_one-requires-clause-stands
add_one-requires-clause-stands g c =
    stands_by c.args.selected.layout.now.script.text c.args.session.now.script.blocks c.args.selected.layout.now.script.heads.items c.as_slice.result.now c.loop-i.i c.number_at.result c.block_at.result.now c.requires.heads c.as_slice.ensures.value
    c.number_at.ensures c.block_at.ensures

pub loop-i-preserved : goal.loop-i-preserved
loop-i-preserved g c =
    edits_more c.args.selected.encoding c.args.selected.text.now c.args.selected.picked c.args.selected.span c.loop-i.later (heads_of c.args.selected.text.now c.args.session.now.script) c.args.session.now.script.blocks (outputs c.args.session.now.script)
    c.loop-i.i c.number_at.result c.block_at.result.now c.output_at.result.now c.loop-i.out.items c.add_one.new.out.items _ c.in_ok-later.later
    (subst (λ (ns : List ℕ). slice_get ns c.loop-i.i ≡ Some c.number_at.result) (c.as_slice.ensures.value ∙ c.requires.heads_are) c.number_at.ensures)
    c.block_at.ensures c.output_at.ensures c.in_ok-later.ensures.out c.in_ok-later.ensures.later c.loop-i.invariant

pub returns : goal.returns
returns g c =
    edits_last c.args.selected.encoding c.args.selected.text.now c.args.selected.picked c.args.selected.span c.loop-i.later (heads_of c.args.selected.text.now c.args.session.now.script) c.args.session.now.script.blocks (outputs c.args.session.now.script)
    c.loop-i.i c.loop-i.out.items _ (omega (arith, c.loop-i-test.false, c.len-i-end.ensures.len)) c.loop-i.invariant
