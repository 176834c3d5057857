use Rattle.std.proofs.Common.{◌∙◌, ℕ, List, subst, arith}
use Rattle.std.specs.Prelude.{slice_get, Some, ◌≡◌}
use Rattle.rb_replay.specs.Run.{outputs}
use Rattle.rb_script_report.proofs.EachLaws.{each_all, each_more}
use Rattle.rb_editor.specs.Heads.{heads_of}
use Rattle.rb_editor.specs.Lenses.{lenses_at}
use Rattle.rb_editor.proofs.FindingLaws.{stands_by}
use Rattle.rb_editor.proofs.actions.lens.lenses_by.Goals as goal

pub add_at-requires : goal.add_at-requires
add_at-requires g c = record {
  lines = c.requires.lines_are;
  stands = stands_by c.args.run.layout.now.script.text c.args.run.session.now.script.blocks c.args.run.layout.now.script.heads.items c.as_slice.result.now c.loop-i.i c.number_at.result c.block_at.result.now c.requires.heads c.as_slice.ensures.value
      c.number_at.ensures c.block_at.ensures;
}

pub loop-i-preserved : goal.loop-i-preserved
loop-i-preserved g c =
    let s = c.args.run.session.now.script in
    each_more (lenses_at c.args.wanted.accepts c.args.wanted.opens c.args.run.text.now) (heads_of c.args.run.text.now s) s.blocks (outputs s) c.loop-i.i c.number_at.result c.block_at.result.now c.output_at.result.now
    c.loop-i.list.items c.add_at.new.list.items _
    (subst (λ (ns : List ℕ). slice_get ns c.loop-i.i ≡ Some c.number_at.result) (c.as_slice.ensures.value ∙ c.requires.heads_are) c.number_at.ensures)
    c.block_at.ensures c.output_at.ensures c.in_ok-add_at.ensures c.loop-i.invariant

pub returns : goal.returns
returns g c =
    let s = c.args.run.session.now.script in
    each_all (lenses_at c.args.wanted.accepts c.args.wanted.opens c.args.run.text.now) (heads_of c.args.run.text.now s) s.blocks (outputs s) c.loop-i.i c.loop-i.list.items _
    (omega (arith, c.loop-i-test.false, c.len-i-end.ensures.len)) c.loop-i.invariant
