use Rattle.std.proofs.Common.{◌∙◌, ◌+◌, drop, ap, ap₂, sym, arith}
use Rattle.std.specs.Prelude.{fold}
use Rattle.std.proofs.lemmas.List.{drop_all, take_all}
use Rattle.rb_script.specs.Reading.{directive_of}
use Rattle.rb_machine.specs.Cluster.{Cluster}
use Rattle.rb_machine.specs.Outcome.{execution, shown_items}
use Rattle.rb_replay.specs.Run.{outputs}
use Rattle.rb_replay.proofs.RunLaws.{length-outputs, run_next}
use Rattle.rb_view.specs.declared.trace.tracer.Tracer.{Tracer}
use Rattle.rb_view.specs.Traces.{traced_from, with_item}
use Rattle.rb_view.proofs.TraceLaws.{traced_end, traced_more}
use Rattle.rb_view.proofs.trace.trace.trace_directives.Goals as goal

pub loop-i-init : goal.loop-i-init
loop-i-init g c = record {
  here = c.in_ok-machine.ensures;
  printed = c.new-printed.ensures;
  traced = ap₂ (λ (d : Cluster) (t : Tracer). traced_from c.args.heads.now 1 d t c.args.script.now.blocks) c.in_ok-machine.ensures c.new-tracer.ensures;
  counted = λ _. omega (arith);
}

pub loop-i-preserved : goal.loop-i-preserved
loop-i-preserved g c =
    let i = c.loop-i.i in
    let heads = c.args.heads.now in
    let bs = c.args.script.now.blocks in
    let b = c.block_at.result.now in
    let line = c.number_at.result in
    let before = c.loop-i.machine in
    let after = c.in_ok-ran.ran.machine in
    let on = run_next c.args.script.now i b before after c.in_ok-ran.ran.output c.loop-i.printed c.push.new.self c.block_at.ensures
    c.loop-i.invariant.here c.in_ok-ran.ensures.machine c.in_ok-ran.ensures.output c.loop-i.invariant.printed c.in_ok-push.ensures in
    let so = c.in_ok-ran.ensures.tracer ∙ ap (λ (t : Tracer). fold with_item t (shown_items (execution before (directive_of b)))) c.begin.ensures in
    record {
      here = on.0;
      printed = on.1;
      traced = sym (traced_more heads bs i line (i + 1) b before after c.loop-i.tracer c.in_ok-ran.ran.tracer c.number_at.ensures c.block_at.ensures c.in_ok-ran.ensures.machine so)
          ∙ c.loop-i.invariant.traced;
      counted = λ small. omega (arith, small, c.loop-i.invariant.counted small, c.in_ok-ran.ensures.counted (omega (arith, small, c.loop-i.invariant.counted small)));
    }

pub returns-clause-objects : goal.returns-clause-objects
returns-clause-objects g c =
    let i = c.loop-i.i in
    let none = drop_all i c.args.script.now.blocks (omega (arith, c.loop-i-test.false, c.len-i-end.ensures)) in
    ap (λ (t : Tracer). t.lines) (sym (traced_end (drop i c.args.heads.now) (i + 1) c.loop-i.machine c.loop-i.tracer (drop i c.args.script.now.blocks) none) ∙ c.loop-i.invariant.traced)

pub returns-clause-outputs : goal.returns-clause-outputs
returns-clause-outputs g c =
    c.loop-i.invariant.printed ∙ take_all c.loop-i.i (outputs c.args.script.now) (omega (arith, c.loop-i-test.false, c.len-i-end.ensures, length-outputs c.args.script.now))
