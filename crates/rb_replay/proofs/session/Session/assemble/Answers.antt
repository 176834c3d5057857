use Rattle.std.proofs.Common.{◌≡◌, ◌≤◌, ◌++◌, ap, ap₂, sym, ◌∙◌, ℕ, List, length, take, drop, map, subst, arith}
use Rattle.std.proofs.lemmas.List.{take_rest}
use Rattle.std.proofs.lemmas.List.Elements.{All-weaker}
use Rattle.rb_script.specs.declared.limits.TheConstants.{MAX_DIRECTIVES}
use Rattle.rb_script.specs.Lines.{Line}
use Rattle.rb_script.specs.Shared.{values}
use Rattle.rb_machine.specs.Cluster.{Cluster}
use Rattle.rb_replay.specs.declared.run.Rerun.{Rerun}
use Rattle.rb_replay.specs.Run.{state, outputs}
use Rattle.rb_replay.specs.Holding.{Holding, IsOneRun}
use Rattle.rb_replay.specs.Reuse.{Change, IsChange, change_by, new_point, start, stop}
use Rattle.rb_replay.specs.Splices.{old_stop, IsRerun}
use Rattle.rb_replay.proofs.RunLaws.{length-outputs}
use Rattle.rb_replay.proofs.PartLaws.{all-rest}
use Rattle.rb_replay.proofs.PointLaws.{kept-all}
use Rattle.rb_replay.proofs.ReuseLaws.{start-le}
use Rattle.rb_replay.proofs.ReadyLaws.{states-ready, joined_points, joined-before, outputs-ready, old_stop-within}
use Rattle.rb_replay.proofs.FreshLaws.{held-outputs}
use Rattle.rb_replay.proofs.session.Session.assemble.Goals as goal

-- the outputs that are held, those of the run put in between
put-in : {M : Type 0} (meaning : M → Cluster) (ch : Change) (run : Rerun M) (to : ℕ) (held came : List (List Line)) → IsChange ch → IsRerun meaning ch run → to ≡ old_stop ch run.met → held ≡ outputs ch.old → came ≡ values run.running.outputs.items
    → take run.running.from held ++ (came ++ drop to held) ≡ outputs ch.new
put-in meaning ch run to held came change is to_is held_is came_is =
    let on : take (start ch) (outputs ch.new) ++ values run.running.outputs.items ≡ take (stop ch run.met) (outputs ch.new) =
    ap (λ (n : ℕ). take n (outputs ch.new) ++ values run.running.outputs.items) (sym is.from_is) ∙ is.has_run.outputs_on ∙ ap (λ (n : ℕ). take n (outputs ch.new)) is.at_is in
    rw (held_is, came_is, is.from_is, to_is) (outputs-ready ch run.met (values run.running.outputs.items) change is.is_first on)

pub splice-requires : goal.splice-requires
splice-requires g c =
    let run = c.requires.run in
    let ch = change_by c.args.self.now c.args.new.now c.args.splice in
    let held : c.self.inside.outputs ≡ outputs c.args.self.now.script = held-outputs c.self.view_is c.self.invariant in
    record {
      from = let le = start-le ch in omega (arith, le, run.from_is, c.requires.change.old_from, c.requires.change.old_within, ap length held, length-outputs c.args.self.now.script);
      to = let le = old_stop-within ch c.args.run.met c.requires.change run.is_first in omega (arith, le, c.requires.rejoin.old_stop_is, ap length held, length-outputs c.args.self.now.script);
    }

pub mismatches_after-requires-clause-outputs : goal.mismatches_after-requires-clause-outputs
mismatches_after-requires-clause-outputs g c =
    let held : c.self.inside.outputs ≡ outputs c.args.self.now.script = held-outputs c.self.view_is c.self.invariant in
    c.in_ok-outputs.ensures
    ∙ put-in g.M.Machine.meaning (change_by c.args.self.now c.args.new.now c.args.splice) c.args.run c.args.rejoin.old_stop c.self.inside.outputs (values c.deref.result.now) c.requires.change c.requires.run c.requires.rejoin.old_stop_is held (ap values c.deref.ensures.value)

pub joined-requires-clause-small : goal.joined-requires-clause-small
joined-requires-clause-small g c =
    let few : length (c.self.inside.script).blocks ≤ MAX_DIRECTIVES = c.self.invariant.few in
    let all = All-weaker (λ p. p ≤ length (c.self.inside.script).blocks) (λ p. p ≤ MAX_DIRECTIVES) (λ p le. omega arith) c.self.inside.points.items
    (kept-all c.self.inside.checkpoint_interval _ c.self.inside.points.items c.self.invariant.near) in
    rw c.deref-4.ensures.value (all-rest MAX_DIRECTIVES c.args.rejoin.rest c.self.inside.points.items all)

pub returns-clause-ready : goal.returns-clause-ready
returns-clause-ready g c =
    let run = c.requires.run in
    let fresh : IsOneRun c.args.self.now = subst IsOneRun c.self.view_is c.self.invariant in
    let held : c.self.inside.outputs ≡ outputs c.args.self.now.script = held-outputs c.self.view_is c.self.invariant in
    let placed : c.self.inside.points.items ≡ c.args.self.now.points = ap (λ (h : Holding). h.points) c.self.view_is in
    let joined : c.in_ok-points.points.items ≡ joined_points (change_by c.args.self.now c.args.new.now c.args.splice) c.args.run.met =
    c.in_ok-points.ensures
    ∙ ap₂ (λ (a b : List ℕ). a ++ b) (ap (take c.args.rejoin.front) (c.deref-2.ensures.value ∙ placed) ∙ c.requires.rejoin.fronts)
    (ap₂ (λ (a b : List ℕ). a ++ map (new_point (change_by c.args.self.now c.args.new.now c.args.splice)) b) (c.deref-3.ensures.value ∙ run.points_are) (take_rest c.deref-4.result.now c.args.rejoin.rest ∙ ap (drop c.args.rejoin.rest) (c.deref-4.ensures.value ∙ placed) ∙ c.requires.rejoin.rests)) in
    record {
      meeting = c.args.run.met;
      is_first = run.is_first;
      from_is = run.from_is;
      at_is = run.at_is;
      spacing_is = run.spacing_is;
      points_are = joined ∙ joined-before (change_by c.args.self.now c.args.new.now c.args.splice) c.args.run.met c.requires.change run.is_first;
      mismatches_are = c.in_ok-mismatches.ensures;
      outputs_are = c.in_ok-outputs.ensures
          ∙ put-in g.M.Machine.meaning (change_by c.args.self.now c.args.new.now c.args.splice) c.args.run c.args.rejoin.old_stop c.self.inside.outputs (values c.deref.result.now) c.requires.change c.requires.run c.requires.rejoin.old_stop_is held (ap values c.deref.ensures.value);
      states_are =
          states-ready (change_by c.args.self.now c.args.new.now c.args.splice) c.args.run.met c.args.rejoin c.args.self.now.kept (map g.M.Machine.meaning c.args.run.running.kept.items) c.requires.change run.is_first c.requires.rejoin fresh.states
          (run.has_run.states_are ∙ ap (map (state c.args.new.now)) run.points_are)
          ∙ ap (map (state c.args.new.now)) (sym joined);
      front_first = c.requires.rejoin.order;
      rest_within = c.requires.rejoin.within;
    }
