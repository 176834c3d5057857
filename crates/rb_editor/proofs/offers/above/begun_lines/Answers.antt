use Rattle.std.proofs.Common.{◌∙◌, ◌+◌, ℕ, drop, ap, sym, arith}
use Rattle.rb_editor.specs.declared.offers.part.Part.{Part}
use Rattle.rb_editor.specs.Above.{begun_lines, more_begun}
use Rattle.rb_editor.proofs.HeadToLaws.{all_begun, one_begun}
use Rattle.rb_editor.proofs.offers.above.begun_lines.Goals as goal

pub loop-i-preserved : goal.loop-i-preserved
loop-i-preserved c =
    let rest = drop (c.loop-i.i + 1) c.args.lines.now in
    record {
      same = ap (λ (n : ℕ). begun_lines c.next-part.result n rest) c.more_begun-count.ensures.value
          ∙ ap (λ (p : Part). begun_lines p (more_begun p c.loop-i.count) rest) c.next-part.ensures
          ∙ sym (one_begun c.loop-i.part c.loop-i.count c.args.lines.now c.loop-i.i c.line.result.now c.line.ensures)
          ∙ c.loop-i.invariant.same;
      few = omega (arith, c.more_begun-count.ensures.most, c.loop-i.invariant.few);
    }

pub returns-clause-value : goal.returns-clause-value
returns-clause-value c = sym (all_begun c.loop-i.part c.loop-i.count c.args.lines.now c.loop-i.i (omega (arith, c.loop-i-test.false, c.len-i-end.ensures))) ∙ c.loop-i.invariant.same
