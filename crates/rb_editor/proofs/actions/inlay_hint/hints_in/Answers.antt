use Rattle.std.proofs.Common.{◌∙◌, ℕ, ◌+◌, List, ◌++◌, Option, subst, ap, arith}
use Rattle.std.specs.Prelude.{slice_get, Some, ◌≡◌}
use Rattle.rb_script.specs.Lines.{Line, lines}
use Rattle.rb_replay.specs.Run.{state}
use Rattle.rb_editor.specs.BlockLines.{block_lines}
use Rattle.rb_editor.specs.Heads.{heads_of}
use Rattle.rb_editor.specs.Hints.{hint_at, leadership, line_within}
use Rattle.rb_editor.proofs.FindingLaws.{stands_by}
use Rattle.rb_editor.proofs.HintLaws.{hint_all, hint_more}
use Rattle.rb_editor.proofs.actions.inlay_hint.hints_in.Goals as goal

pub of_block-at-requires : goal.of_block-at-requires
of_block-at-requires g c =
    stands_by c.args.run.layout.now.script.text c.args.run.session.now.script.blocks c.args.run.layout.now.script.heads.items c.as_slice.result.now c.loop-i.i c.number_at-head.result c.block_at.result.now c.requires.layout.heads c.as_slice.ensures.value
    c.number_at-head.ensures c.block_at.ensures

pub loop-i-preserved : goal.loop-i-preserved
loop-i-preserved g c =
    let s = c.args.run.session.now.script in
    let text = c.args.run.text.now in
    let l = leadership (state s (c.loop-i.i + 1)).nodes in
    record {
      said =
          hint_more (lines text) s c.args.span (heads_of text s) s.blocks c.loop-i.i c.number_at-head.result c.block_at.result.now c.loop-i.list.items c.add_hint_at.new.list.items _
          (subst (λ (ns : List ℕ). slice_get ns c.loop-i.i ≡ Some c.number_at-head.result) (c.as_slice.ensures.value ∙ c.requires.layout.heads_are) c.number_at-head.ensures)
          c.block_at.ensures
          (c.in_ok-last.ensures.added ∙ ap (λ (n : Option ℕ). c.loop-i.list.items ++ hint_at (lines text) n l) (c.line_within.ensures ∙ ap (line_within c.args.span) (c.of_block-at.ensures ∙ ap (λ (ls : List Line). block_lines ls c.number_at-head.result c.block_at.result.now) c.requires.layout.lines_are)))
          c.loop-i.invariant.said;
      last = c.in_ok-last.ensures.machine;
      meter = omega (arith, c.in_ok-last.ensures.counted, c.loop-i.invariant.meter);
    }

pub returns : goal.returns
returns g c =
    let s = c.args.run.session.now.script in
    hint_all (lines c.args.run.text.now) s c.args.span (heads_of c.args.run.text.now s) s.blocks c.loop-i.i c.loop-i.list.items _ (omega (arith, c.loop-i-test.false, c.len-i-end.ensures.len)) c.loop-i.invariant.said
