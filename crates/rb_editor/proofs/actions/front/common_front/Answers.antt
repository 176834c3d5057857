use Rattle.std.proofs.Common.{◌∙◌, sym, arith}
use Rattle.rb_editor.proofs.FrontLaws.{front_here, front_next, shorter_done}
use Rattle.rb_editor.proofs.actions.front.common_front.Goals as goal

pub returns-then-not-is_same_line : goal.returns-then-not-is_same_line
returns-then-not-is_same_line c =
    omega (
      arith,
      c.loop-i.invariant.same,
      front_here c.args.expected.now c.args.output.now c.loop-i.i c.line.result.now c.line-in-loop-i.result.now c.line.ensures c.line-in-loop-i.ensures
          (sym c.is_same_line.ensures ∙ c.if-not-is_same_line.true),
    )

pub loop-i-preserved : goal.loop-i-preserved
loop-i-preserved c = record {
  same = omega (
    arith,
    c.loop-i.invariant.same,
    front_next c.args.expected.now c.args.output.now c.loop-i.i c.line.result.now c.line-in-loop-i.result.now c.line.ensures c.line-in-loop-i.ensures
        (sym c.is_same_line.ensures ∙ c.if-not-is_same_line.false),
  );
  within = omega (arith, c.loop-i-test.true);
}

pub returns : goal.returns
returns c =
    omega (arith, c.loop-i.invariant.same, c.loop-i-test.false, c.loop-i.invariant.within, shorter_done c.args.expected.now c.args.output.now c.loop-i.i (omega (arith, c.loop-i-test.false, c.min-count.ensures, c.len.ensures, c.len-2.ensures)))
