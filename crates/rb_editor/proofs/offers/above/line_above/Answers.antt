use Rattle.std.proofs.Common.{◌≡◌, ◌∙◌, ◌+◌, ◌-◌, ℕ, ap, sym, arith}
use Rattle.rb_editor.specs.Above.{line_above}
use Rattle.rb_editor.proofs.HeadToLaws.{above_more, above_none}
use Rattle.rb_editor.proofs.offers.above.line_above.Goals as goal

pub loop-preserved : goal.loop-preserved
loop-preserved c =
    let left = c.args.lines - (c.loop.counter + 1) in
    let down : c.saturating_sub-place.result ≡ c.line_begin.result - 1 = omega (arith, c.saturating_sub-place.ensures) in
    record {
      before = omega (arith, c.loop.invariant.before, c.line_begin.ensures.before, down);
      same = ap (λ (b : ℕ). line_above left b c.args.text.now) down
          ∙ ap (λ (b : ℕ). line_above left (b - 1) c.args.text.now) c.line_begin.ensures.value
          ∙ sym (above_more (c.args.lines - c.loop.counter) left c.loop.place c.args.text.now (omega (arith, c.loop-test.true)))
          ∙ c.loop.invariant.same;
    }

pub returns-clause-value : goal.returns-clause-value
returns-clause-value c =
    c.line_begin-2.ensures.value
    ∙ sym (above_none (c.args.lines - c.loop.counter) c.loop.place c.args.text.now (omega (arith, c.loop-test.false)))
    ∙ c.loop.invariant.same
