use Rattle.std.proofs.Common.{◌≡◌, ◌∙◌, ◌+◌, ◌-◌, ◌++◌, ℕ, zero, List, drop, take, refl, ap, ap₂, sym, append-nil, arith, rules}
use Rattle.std.specs.List.{flat_map}
use Rattle.rb_machine.specs.Cluster.{Cluster}
use Rattle.rb_machine.specs.Outcome.{outcome}
use Rattle.rb_script.specs.Lines.{Line}
use Rattle.rb_script.specs.Reading.{directive_of}
use Rattle.rb_view.specs.PageRoom.{has_room}
use Rattle.rb_view.specs.SomeSteps.{left_at, some_steps}
use Rattle.rb_view.specs.Steps.{Step, left_next, step, step_texts, steps}
use Rattle.rb_view.proofs.KeepLaws.{one_part}
use Rattle.rb_view.proofs.LookLaws.{machine_next}
use Rattle.rb_view.proofs.PageRoomLaws.{in_none, in_some}
use Rattle.rb_view.proofs.SomeLaws.{left_more, some_more, step_fills}
use Rattle.rb_view.proofs.steps.some.keep_some.Goals as goal

pub loop-i-init : goal.loop-i-init
loop-i-init g c = record {
  rows = refl;
  here = c.requires.here;
  left = c.left_at.ensures;
  from = omega arith;
  counted = λ _. omega arith;
}

pub loop-i-preserved : goal.loop-i-preserved
loop-i-preserved g c =
    let s = c.args.session.now.script in
    let i = c.loop-i.i in
    let to : ℕ = c.args.some.to in
    let heads = c.args.some.heads.now in
    let b = c.block_at-block.result.now in
    let line = c.number_at-line.result in
    let left : ℕ = c.loop-i.table.left in
    let before = g.M.Machine.meaning c.loop-i.machine in
    let after = g.M.Machine.meaning c.in-Some.ran.machine in
    let stepped : after ≡ (outcome before (directive_of b)).cluster
    = in_some (λ r. g.M.Machine.meaning r.machine ≡ (outcome before (directive_of b)).cluster) _ c.in-Some.ran c.in-Some.is c.in_ok-ran.ensures.machine in
    let texts = in_some (λ r. c.keep_step.new.texts ≡ c.loop-i.texts ++ step_texts (step left line before b)) _ c.in-Some.ran c.in-Some.is c.in_ok-ran.ensures.texts in
    let spent = in_some (λ r. c.keep_step.new.table.left ≡ left_next left b.expected (outcome before (directive_of b)).output) _ c.in-Some.ran c.in-Some.is c.in_ok-ran.ensures.left in
    let here = ap₂ (λ (n : ℕ) (d : Cluster). step_texts (step n line d b)) c.loop-i.invariant.left c.loop-i.invariant.here in
    let rest = flat_map step_texts (take (to - (i + 1)) (drop (i + 1) (steps heads s))) in
    record {
      rows = one_part c.loop-i.texts c.keep_step.new.texts (step_texts (step left line before b)) _ rest _
          (ap (flat_map step_texts) (some_more heads s i to line b c.loop-i-test.true c.number_at-line.ensures c.block_at-block.ensures) ∙ ap (λ (ls : List Line). ls ++ rest) (sym here))
          texts c.loop-i.invariant.rows;
      here = machine_next s i b before after c.block_at-block.ensures c.loop-i.invariant.here stepped;
      left = spent ∙ ap₂ (λ (n : ℕ) (d : Cluster). left_next n b.expected (outcome d (directive_of b)).output) c.loop-i.invariant.left c.loop-i.invariant.here ∙ sym (left_more s i b c.block_at-block.ensures);
      from = omega (arith, c.loop-i.invariant.from);
      counted = λ small. omega (arith, small, c.loop-i.invariant.from, c.loop-i.invariant.counted small, c.in_ok-ran.ensures.counted (omega (arith, small, c.loop-i.invariant.counted small, c.loop-i-test.true, c.requires.there, c.requires.few)));
    }

pub returns-in_default-clause-full : goal.returns-in_default-clause-full
returns-in_default-clause-full g c is_full =
    let s = c.args.session.now.script in
    let i = c.loop-i.i in
    let to : ℕ = c.args.some.to in
    let heads = c.args.some.heads.now in
    let b = c.block_at-block.result.now in
    let line = c.number_at-line.result in
    let before = g.M.Machine.meaning c.loop-i.machine in
    let here = step_texts (step c.loop-i.table.left line before b) in
    let same = ap₂ (λ (n : ℕ) (d : Cluster). step_texts (step n line d b)) c.loop-i.invariant.left c.loop-i.invariant.here in
    let rest = flat_map step_texts (take (to - (i + 1)) (drop (i + 1) (steps heads s))) in
    step_fills c.loop-i.texts here rest _
    (ap (λ (ls : List Line). c.loop-i.texts ++ ls) (ap (λ (ls : List Line). ls ++ rest) same ∙ sym (ap (flat_map step_texts) (some_more heads s i to line b c.loop-i-test.true c.number_at-line.ensures c.block_at-block.ensures))) ∙ c.loop-i.invariant.rows)
    (in_none _ _ _ c.in_default.is c.in_ok-ran.ensures.room)

pub returns-clause-texts : goal.returns-clause-texts
returns-clause-texts g c fits =
    let all = drop c.loop-i.i (steps c.args.some.heads.now c.args.session.now.script) in
    let none : c.args.some.to - c.loop-i.i ≡ zero = omega (arith, c.loop-i-test.false) in
    sym (append-nil c.loop-i.texts) ∙ ap (λ (n : ℕ). c.loop-i.texts ++ flat_map step_texts (take n all)) (sym none) ∙ c.loop-i.invariant.rows
