use Rattle.std.proofs.Common.{◌∙◌, sym, arith}
use Rattle.rb_lsp.proofs.DifferLaws.{before_here, before_less, before_none}
use Rattle.rb_lsp.proofs.document.edit.place_before.Goals as goal

pub loop-place-preserved : goal.loop-place-preserved
loop-place-preserved c = record {
  before = omega (arith, c.loop-place.invariant.before);
  same = sym (before_less c.loop-place.place c.args.text.now c.loop-place-test.true (sym c.is_place.ensures ∙ c.if-not-is_place.true)) ∙ c.loop-place.invariant.same;
}

pub returns-else-not-is_place-clause-value : goal.returns-else-not-is_place-clause-value
returns-else-not-is_place-clause-value c = sym (before_here c.loop-place.place c.args.text.now (sym c.is_place.ensures ∙ c.if-not-is_place.false)) ∙ c.loop-place.invariant.same

pub returns-after-loop-place-clause-value : goal.returns-after-loop-place-clause-value
returns-after-loop-place-clause-value c = sym (before_none c.loop-place.place c.args.text.now (omega (arith, c.loop-place-test.false))) ∙ c.loop-place.invariant.same
