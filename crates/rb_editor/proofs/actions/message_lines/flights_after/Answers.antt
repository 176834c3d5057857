use Rattle.std.proofs.Common.{◌∙◌, ◌+◌, ◌-◌, drop, ap, sym, arith}
use Rattle.rb_editor.specs.declared.actions.message_lines.Flights.{Flights}
use Rattle.rb_editor.specs.Messages.{flights_after}
use Rattle.rb_editor.proofs.MessageLaws.{all_counted, one_counted}
use Rattle.rb_editor.proofs.actions.message_lines.flights_after.Goals as goal

pub loop-i-preserved : goal.loop-i-preserved
loop-i-preserved c =
    record {
      same = ap (λ (f : Flights). flights_after c.args.message.now f (c.args.count - (c.loop-i.i + 1)) (drop (c.loop-i.i + 1) c.args.lines.now)) c.after_line-counted.ensures.value
          ∙ sym (one_counted c.args.message.now c.loop-i.counted c.args.count c.args.lines.now c.loop-i.i c.line.result.now c.loop-i-test.true c.line.ensures)
          ∙ c.loop-i.invariant.same;
      few = omega (arith, c.after_line-counted.ensures.few.0, c.loop-i.invariant.few);
      ended = c.after_line-counted.ensures.few.1;
    }

pub returns-clause-value : goal.returns-clause-value
returns-clause-value c = sym (all_counted c.args.message.now c.loop-i.counted c.args.count c.args.lines.now c.loop-i.i c.loop-i-test.false) ∙ c.loop-i.invariant.same
