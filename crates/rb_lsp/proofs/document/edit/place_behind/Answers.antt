use Rattle.std.proofs.Common.{◌∙◌, sym, arith}
use Rattle.rb_lsp.proofs.DifferLaws.{behind_here, behind_more, behind_all}
use Rattle.rb_lsp.proofs.document.edit.place_behind.Goals as goal

pub loop-place-preserved : goal.loop-place-preserved
loop-place-preserved c = record {
  behind = omega (arith, c.loop-place.invariant.behind);
  within = omega (arith, c.loop-place-test.true);
  same = sym (behind_more c.loop-place.place c.args.text.now c.loop-place-test.true (sym c.is_place.ensures ∙ c.if-not-is_place.true)) ∙ c.loop-place.invariant.same;
}

pub returns-else-not-is_place-clause-value : goal.returns-else-not-is_place-clause-value
returns-else-not-is_place-clause-value c = sym (behind_here c.loop-place.place c.args.text.now (sym c.is_place.ensures ∙ c.if-not-is_place.false)) ∙ c.loop-place.invariant.same

pub returns-after-loop-place-clause-value : goal.returns-after-loop-place-clause-value
returns-after-loop-place-clause-value c = sym (behind_all c.loop-place.place c.args.text.now (omega (arith, c.loop-place-test.false))) ∙ c.loop-place.invariant.same
