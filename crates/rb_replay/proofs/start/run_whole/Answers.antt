use Rattle.std.proofs.Common.{◌≡◌, ◌-◌, ◌∷◌, ℕ, List, length, arith, ap, ◌∙◌}
use Rattle.std.proofs.lemmas.Grind.{common_steps}
use Rattle.std.proofs.lemmas.List.{take_all}
use Rattle.rb_replay.specs.Run.{outputs}
use Rattle.rb_replay.proofs.RunLaws.{length-outputs}
use Rattle.rb_replay.proofs.PaceLaws.{paced_end}
use Rattle.rb_replay.proofs.start.run_whole.Goals as goal

pub returns-clause-outputs : goal.returns-clause-outputs
returns-clause-outputs g c =
    let run = c.loop-running.invariant.run in
    let at : c.loop-running.running.at ≡ length c.args.script.now.blocks = omega (arith, c.len.ensures, c.loop-running-test.false, run.within) in
    let on = rw (c.loop-running.invariant.begins, at) at run.outputs_on in
    on ∙ take_all (length c.args.script.now.blocks) (outputs c.args.script.now) (omega (arith, length-outputs c.args.script.now))

pub returns-clause-points : goal.returns-clause-points
returns-clause-points g c =
    let at : c.loop-running.running.at ≡ length c.args.script.now.blocks = omega (arith, c.len.ensures, c.loop-running-test.false, c.loop-running.invariant.run.within) in
    let all : length c.args.script.now.blocks - 0 ≡ length c.args.script.now.blocks = omega arith in
    let paced = rw (c.loop-running.invariant.begins, c.loop-running.invariant.spaced, at, all) at (paced_end c.loop-running.running.checkpoint_interval c.loop-running.running.from c.loop-running.running.at c.loop-running.running.until_checkpoint c.loop-running.running.points.items c.loop-running.invariant.paced) in
    let first : c.insert-2.new.self.items ≡ 0 ∷ c.loop-running.running.points.items = grind (arith, common_steps) in
    first ∙ ap (λ (ps : List ℕ). 0 ∷ ps) paced
