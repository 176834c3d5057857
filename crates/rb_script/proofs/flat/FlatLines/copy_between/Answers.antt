use Rattle.std.proofs.Common.{◌++◌, ◌∷◌, [], ap, sym, ◌∙◌, arith}
use Rattle.rb_script.proofs.BetweenLaws.{between_more}
use Rattle.rb_script.proofs.flat.FlatLines.copy_between.Goals as goal

pub loop-i-preserved : goal.loop-i-preserved
loop-i-preserved c =
    let line = c.line.result.now in
    record {
      order = omega (arith, c.loop-i.invariant.order);
      within = omega arith;
      copied = c.in_ok-push.ensures.ok ∙ ap (λ l. l ++ line ∷ []) c.loop-i.invariant.copied ∙ sym (between_more c.args.from c.loop-i.i c.args.self.now line c.loop-i.invariant.order c.line.ensures);
    }
