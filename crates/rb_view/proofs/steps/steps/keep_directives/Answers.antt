use Rattle.std.proofs.Common.{◌≡◌, ◌∙◌, ◌++◌, ℕ, List, drop, ap, ap₂, sym, subst, append-nil, arith}
use Rattle.std.proofs.lemmas.List.{drop_all, take_all}
use Rattle.std.specs.List.{flat_map}
use Rattle.rb_machine.specs.Cluster.{Cluster}
use Rattle.rb_machine.specs.Outcome.{outcome}
use Rattle.rb_script.specs.Reading.{directive_of}
use Rattle.rb_replay.specs.Run.{outputs}
use Rattle.rb_replay.proofs.RunLaws.{length-outputs, run_next}
use Rattle.rb_view.specs.PageRoom.{has_room}
use Rattle.rb_view.specs.Steps.{Step, left_next, step, step_texts, steps_from}
use Rattle.rb_script.specs.Script.{PlainBlock}
use Rattle.rb_view.specs.Values.{BlockShowsBytes, GoOnShowingBytes}
use Rattle.rb_view.proofs.KeepLaws.{one_part}
use Rattle.rb_view.proofs.PageRoomLaws.{in_none, in_some}
use Rattle.rb_view.proofs.StepLaws.{goes_on_showing, steps_more, steps_end}
use Rattle.rb_view.proofs.StepRoomLaws.{steps_full}
use Rattle.rb_view.proofs.steps.steps.keep_directives.Goals as goal

pub loop-i-init : goal.loop-i-init
loop-i-init g c = record {
  here = c.in_ok-machine.ensures;
  printed = c.new-printed.ensures;
  rows = ap₂ (λ (n : ℕ) (d : Cluster). c.args.texts.now ++ flat_map step_texts (steps_from n c.args.heads.now d c.args.script.now.blocks)) c.in_ok-table.ensures c.in_ok-machine.ensures;
  bytes = λ rest. subst (λ (d : Cluster). GoOnShowingBytes d c.args.script.now.blocks) c.in_ok-machine.ensures rest;
  counted = λ _. omega (arith);
}

pub loop-i-preserved : goal.loop-i-preserved
loop-i-preserved g c =
    let i = c.loop-i.i in
    let heads = c.args.heads.now in
    let bs = c.args.script.now.blocks in
    let b = c.block_at-block.result.now in
    let line = c.number_at-line.result in
    let left : ℕ = c.loop-i.table.left in
    let before = g.M.Machine.meaning c.loop-i.machine in
    let after = g.M.Machine.meaning c.in-Some.ran.machine in
    let stepped : after ≡ (outcome before (directive_of b)).cluster
    = in_some (λ r. g.M.Machine.meaning r.machine ≡ (outcome before (directive_of b)).cluster) _ c.in-Some.ran c.in-Some.is c.in_ok-ran.ensures.machine in
    let said : c.in-Some.ran.output ≡ (outcome before (directive_of b)).output
    = in_some (λ r. r.output ≡ (outcome before (directive_of b)).output) _ c.in-Some.ran c.in-Some.is c.in_ok-ran.ensures.output in
    let texts = in_some (λ r. c.keep_step.new.texts ≡ c.loop-i.texts ++ step_texts (step left line before b)) _ c.in-Some.ran c.in-Some.is c.in_ok-ran.ensures.texts in
    let spent = in_some (λ r. c.keep_step.new.table.left ≡ left_next left b.expected (outcome before (directive_of b)).output) _ c.in-Some.ran c.in-Some.is c.in_ok-ran.ensures.left in
    let bytes = in_some (λ r. BlockShowsBytes before b) _ c.in-Some.ran c.in-Some.is c.in_ok-ran.ensures.bytes in
    let on = run_next c.args.script.now i b before after c.in-Some.ran.output c.loop-i.printed c.push.new.self c.block_at-block.ensures
    c.loop-i.invariant.here stepped said c.loop-i.invariant.printed c.in_ok-push.ensures in
    record {
      here = on.0;
      printed = on.1;
      rows = one_part c.loop-i.texts c.keep_step.new.texts (step_texts (step left line before b)) _ _ _
          (steps_more left c.keep_step.new.table.left heads bs i line b before after c.number_at-line.ensures c.block_at-block.ensures stepped spent)
          texts c.loop-i.invariant.rows;
      bytes = λ rest. c.loop-i.invariant.bytes (goes_on_showing bs i b before after c.block_at-block.ensures stepped bytes rest);
      counted = λ small. omega (arith, small, c.loop-i.invariant.counted small, c.in_ok-ran.ensures.counted (omega (arith, small, c.loop-i.invariant.counted small)));
    }

pub returns-in_default-clause-room : goal.returns-in_default-clause-room
returns-in_default-clause-room g c =
    ap has_room (sym c.loop-i.invariant.rows)
    ∙ steps_full c.loop-i.texts c.loop-i.table.left c.args.heads.now c.args.script.now.blocks c.loop-i.i c.number_at-line.result c.block_at-block.result.now (g.M.Machine.meaning c.loop-i.machine)
    c.number_at-line.ensures c.block_at-block.ensures (in_none _ _ _ c.in_default.is c.in_ok-ran.ensures.room)

pub returns-clause-texts : goal.returns-clause-texts
returns-clause-texts g c =
    let i = c.loop-i.i in
    let t = c.loop-i.texts in
    let heads = drop i c.args.heads.now in
    let bs = drop i c.args.script.now.blocks in
    let none = drop_all i c.args.script.now.blocks (omega (arith, c.loop-i-test.false, c.len-i-end.ensures)) in
    sym (append-nil t) ∙ ap (λ (ss : List Step). t ++ flat_map step_texts ss) (sym (steps_end c.loop-i.table.left heads (g.M.Machine.meaning c.loop-i.machine) bs none)) ∙ c.loop-i.invariant.rows

pub returns-clause-bytes : goal.returns-clause-bytes
returns-clause-bytes g c =
    let i = c.loop-i.i in
    let none = drop_all i c.args.script.now.blocks (omega (arith, c.loop-i-test.false, c.len-i-end.ensures)) in
    c.loop-i.invariant.bytes (subst (λ (bs : List PlainBlock). GoOnShowingBytes (g.M.Machine.meaning c.loop-i.machine) bs) (sym none) tt)

pub returns-clause-outputs : goal.returns-clause-outputs
returns-clause-outputs g c =
    c.loop-i.invariant.printed ∙ take_all c.loop-i.i (outputs c.args.script.now) (omega (arith, c.loop-i-test.false, c.len-i-end.ensures, length-outputs c.args.script.now))
