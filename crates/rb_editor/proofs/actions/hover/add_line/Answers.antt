use Rattle.std.proofs.Common.{◌∙◌, ℕ, List, length, ap, sym, subst, arith}
use Rattle.std.specs.Prelude.{◌≡◌, slice_get, Some}
use Rattle.rb_replay.specs.Run.{outputs}
use Rattle.rb_editor.specs.Heads.{heads_of}
use Rattle.rb_editor.proofs.FindingLaws.{stands_by}
use Rattle.rb_editor.proofs.HoverLaws.{hover_next, hover_none, hover_went}
use Rattle.rb_editor.proofs.actions.hover.add_line.Goals as goal

pub extent_of-extent-requires : goal.extent_of-extent-requires
extent_of-extent-requires g c =
    stands_by c.args.run.layout.now.script.text c.args.run.session.now.script.blocks c.args.run.layout.now.script.heads.items c.as_slice.result.now c.loop-i.i c.number_at-head.result c.block_at-block.result.now c.requires.layout.heads c.as_slice.ensures.value
    c.number_at-head.ensures c.block_at-block.ensures

pub loop-i-preserved : goal.loop-i-preserved
loop-i-preserved g c = record {
  left = hover_next c.args.run.encoding c.args.run.text.now c.args.run.session.now.script c.args.line c.loop-i.i c.number_at-head.result c.block_at-block.result.now c.output_at-output.result.now
      c.args.run.layout.now.script.text c.extent_of-extent.result c.has_line.result _
      (subst (λ (ns : List ℕ). slice_get ns c.loop-i.i ≡ Some c.number_at-head.result) (c.as_slice.ensures.value ∙ c.requires.layout.heads_are) c.number_at-head.ensures)
      c.block_at-block.ensures c.output_at-output.ensures c.requires.layout.lines_are c.extent_of-extent.ensures c.has_line.ensures c.if-has_line.false c.loop-i.invariant.left;
  out = c.loop-i.invariant.out;
  meter = c.loop-i.invariant.meter;
}

pub returns-then-has_line : goal.returns-then-has_line
returns-then-has_line g c =
    hover_went c.args.run.encoding c.args.run.text.now c.args.run.session.now.script c.args.line c.loop-i.i c.number_at-head.result c.block_at-block.result.now c.output_at-output.result.now
    c.args.run.layout.now.script.text c.extent_of-extent.result c.has_line.result c.as_slice-then-has_line.result.now c.loop-i.out.items c.args.out.now.items c.add_hover_text.new.out.items _
    (subst (λ (ns : List ℕ). slice_get ns c.loop-i.i ≡ Some c.number_at-head.result) (c.as_slice.ensures.value ∙ c.requires.layout.heads_are) c.number_at-head.ensures)
    c.block_at-block.ensures c.output_at-output.ensures c.requires.layout.lines_are c.extent_of-extent.ensures c.has_line.ensures c.if-has_line.true c.loop-i.invariant.left
    c.in_ok-add_hover_text.ensures c.loop-i.invariant.out
    (c.as_slice-then-has_line.ensures.value ∙ c.in_ok-shown.ensures)

pub returns : goal.returns
returns g c =
    let len : length (heads_of c.args.run.text.now c.args.run.session.now.script) ≡ length c.args.run.session.now.script.blocks = ap (λ (ns : List ℕ). length ns) (sym c.requires.layout.heads_are) ∙ c.requires.layout.count in
    hover_none c.args.run.encoding c.args.run.text.now c.args.run.session.now.script c.args.line c.loop-i.i (heads_of c.args.run.text.now c.args.run.session.now.script) c.args.run.session.now.script.blocks (outputs c.args.run.session.now.script)
    c.loop-i.out.items c.args.out.now.items c.extend_from_slice.new.self.items _ (omega (arith, c.loop-i-test.false, c.len-i-end.ensures.len, len)) c.loop-i.invariant.left
    c.in_ok-extend_from_slice.ensures.items c.loop-i.invariant.out
