use Rattle.std.proofs.Common.{◌∙◌, ◌+◌, Bool, drop, ap, sym, arith}
use Rattle.rb_editor.specs.Selections.{piece_end}
use Rattle.rb_editor.proofs.SelectionLaws.{end_all, end_here, end_more}
use Rattle.rb_editor.proofs.actions.piece.piece_end.Goals as goal

pub returns-then-ends-clause-value : goal.returns-then-ends-clause-value
returns-then-ends-clause-value c =
    sym (end_here c.args.kind c.loop-i.inside c.args.line.now c.loop-i.i 0 c.loop-i-test.true (sym c.ends.ensures ∙ c.if-ends.true)) ∙ c.loop-i.invariant.same

pub loop-i-preserved : goal.loop-i-preserved
loop-i-preserved c = record {
  same = ap (λ (t : Bool). piece_end c.args.kind (c.loop-i.i + 1) t (drop (c.loop-i.i + 1) c.args.line.now)) c.inside_after-inside.ensures
      ∙ end_more c.args.kind c.loop-i.inside c.args.line.now c.loop-i.i 0 c.loop-i-test.true (sym c.ends.ensures ∙ c.if-ends.false)
      ∙ c.loop-i.invariant.same;
  within = omega (arith, c.loop-i-test.true);
}

pub returns-clause-value : goal.returns-clause-value
returns-clause-value c =
    omega (arith, c.loop-i-test.false, c.loop-i.invariant.within, end_all c.args.kind c.loop-i.inside c.args.line.now c.loop-i.i c.loop-i-test.false, c.loop-i.invariant.same)
