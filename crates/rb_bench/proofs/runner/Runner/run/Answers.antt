use Rattle.std.proofs.Common.{arith, ap, ◌∙◌}
use Rattle.std.proofs.lemmas.List.{take_all}
use Rattle.rb_script.specs.Directive.{PlainDirective}
use Rattle.rb_script.specs.Tokens.{plain}
use Rattle.rb_machine.specs.Outcome.{execution, outcome}
use Rattle.rb_replay.specs.Run.{outputs}
use Rattle.rb_replay.proofs.RunLaws.{length-outputs, run_next}
use Rattle.rb_bench.specs.Reasons.{asked_reasons, reasons_if}
use Rattle.rb_bench.proofs.ReasonLaws.{reasons-more, reasons-done}
use Rattle.rb_bench.proofs.runner.Runner.run.Goals as goal

pub loop-i-preserved : goal.loop-i-preserved
loop-i-preserved g c =
    let s = c.args.script.now in
    let explains = c.args.explains in
    let b = c.block_at.result.now in
    let before = c.loop-i.cluster in
    let after = c.run_directive.new.cluster in
    let d = plain c.directive-directive.result in
    let whole = c.directive-directive.ensures.whole in
    let ran = c.in_ok-run_directive.ensures in
    let next = ran.cluster ∙ ap (λ (d : PlainDirective). (outcome before d).cluster) whole in
    let on = run_next s c.loop-i.i b before after (outcome before d).output c.loop-i.ran.outputs c.run_directive.new.ran.outputs c.block_at.ensures
    c.loop-i.invariant.here next (ap (λ (d : PlainDirective). (outcome before d).output) whole) c.loop-i.invariant.printed ran.outputs in
    record {
      here = on.0;
      printed = on.1;
      so_far = reasons-more explains before after s.blocks c.loop-i.i b (reasons_if explains (execution before d)) c.loop-i.ran.whys.items c.run_directive.new.ran.whys.items (asked_reasons explains s)
          c.block_at.ensures (ap (λ (d : PlainDirective). reasons_if explains (execution before d)) whole) next ran.whys c.loop-i.invariant.so_far;
      counted = λ small. omega (arith, c.loop-i.invariant.counted small, ran.counted (omega (arith, small, c.loop-i.invariant.counted small)));
    }

pub returns-clause-outputs : goal.returns-clause-outputs
returns-clause-outputs g c =
    c.loop-i.invariant.printed ∙ take_all c.loop-i.i (outputs c.args.script.now) (omega (arith, c.loop-i-test.false, c.len-i-end.ensures, length-outputs c.args.script.now))

pub returns-clause-whys : goal.returns-clause-whys
returns-clause-whys g c =
    reasons-done c.args.explains c.loop-i.cluster c.args.script.now.blocks c.loop-i.i c.loop-i.ran.whys.items (asked_reasons c.args.explains c.args.script.now)
    (omega (arith, c.loop-i-test.false, c.len-i-end.ensures)) c.loop-i.invariant.so_far
