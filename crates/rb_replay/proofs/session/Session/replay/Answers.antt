use Rattle.std.proofs.Common.{◌≡◌, ◌-◌, ap, sym, ◌∙◌, take, drop, ◌++◌, List, map, refl, arith}
use Rattle.rb_machine.specs.Cluster.{Cluster}
use Rattle.rb_replay.specs.Run.{state}
use Rattle.rb_replay.specs.Holding.{Holding, IsOneRun}
use Rattle.rb_replay.specs.Reuse.{change_by, start, stop, IsCost}
use Rattle.rb_replay.specs.Splices.{IsReady}
use Rattle.rb_replay.proofs.ReadyLaws.{start-first, on_err_always}
use Rattle.rb_replay.proofs.ReuseLaws.{cost-one}
use Rattle.rb_replay.proofs.NearLaws.{points-kept}
use Rattle.rb_replay.proofs.RunningLaws.{same-length}
use Rattle.rb_replay.proofs.FreshLaws.{joined-map}
use Rattle.rb_replay.proofs.session.Session.replay.Goals as goal
use Rattle.rb_replay.proofs.session.Session.replay.Given.{Over}

pub overflow_sub-executed : goal.overflow_sub-executed
overflow_sub-executed g c =
    let ready : IsReady g.M.Machine.meaning (change_by c.args.self.now c.args.new c.args.splice) c.args.self.now.kept c.in_ok-ready.ready = c.in_ok-ready.ensures.ready in
    rw (ready.from_is, ready.at_is) (start-first (change_by c.args.self.now c.args.new c.args.splice) ready.meeting c.requires.change ready.is_first)

-- what is kept, put together
joined : {M : Type 0} (meaning : M → Cluster) (f r : _) (inside : List M) (room : List M) (fresh : List M) (held : List Cluster) (states : List Cluster) → room ≡ inside → map meaning inside ≡ held → take f held ++ (map meaning fresh ++ drop r held) ≡ states → map meaning (take f room ++ (fresh ++ drop r room)) ≡ states
joined meaning f r inside room fresh held states same view ready =
    joined-map meaning f r room fresh ∙ ap (λ (k : List Cluster). take f k ++ (map meaning fresh ++ drop r k)) (ap (map meaning) same ∙ view) ∙ ready

pub install_checkpoints-requires-clause-paired : goal.install_checkpoints-requires-clause-paired
install_checkpoints-requires-clause-paired g c =
    let ready : IsReady g.M.Machine.meaning (change_by c.args.self.now c.args.new c.args.splice) c.args.self.now.kept c.in_ok-ready.ready = c.in_ok-ready.ensures.ready in
    same-length g.M.Machine.meaning (state c.args.new) (take c.in_ok-ready.ready.rejoin.front c.reserve.new.self.items ++ (c.in_ok-ready.ready.running.kept.items ++ drop c.in_ok-ready.ready.rejoin.rest c.reserve.new.self.items)) c.in_ok-ready.ready.points.items
    (joined g.M.Machine.meaning c.in_ok-ready.ready.rejoin.front c.in_ok-ready.ready.rejoin.rest c.self.inside.kept.items c.reserve.new.self.items c.in_ok-ready.ready.running.kept.items c.args.self.now.kept (map (state c.args.new) c.in_ok-ready.ready.points.items)
    c.in_ok-reserve.ensures.items (ap (λ (h : Holding). h.kept) c.self.view_is) ready.states_are)

fresh-now : (g : Over) (c : goal.After-install_checkpoints g) → IsOneRun (record { script = c.args.new; checkpoint_interval = c.self.inside.checkpoint_interval; outputs = c.in_ok-ready.ready.outputs; mismatches = c.in_ok-ready.ready.mismatches.items; points = c.install_checkpoints.new.points.items; kept = map g.M.Machine.meaning c.install_checkpoints.new.kept.items })
fresh-now g c =
    let ready : IsReady g.M.Machine.meaning (change_by c.args.self.now c.args.new c.args.splice) c.args.self.now.kept c.in_ok-ready.ready = c.in_ok-ready.ensures.ready in
    let checkpoint_interval : c.in_ok-ready.ready.running.checkpoint_interval ≡ c.self.inside.checkpoint_interval = ready.spacing_is ∙ sym (ap (λ (h : Holding). h.checkpoint_interval) c.self.view_is) in
    record {
      answered = ready.outputs_are;
      compared = ready.mismatches_are;
      states = c.install_checkpoints.ensures.kept (state c.args.new)
          (joined g.M.Machine.meaning c.in_ok-ready.ready.rejoin.front c.in_ok-ready.ready.rejoin.rest c.self.inside.kept.items c.reserve.new.self.items c.in_ok-ready.ready.running.kept.items c.args.self.now.kept (map (state c.args.new) c.in_ok-ready.ready.points.items)
          c.in_ok-reserve.ensures.items (ap (λ (h : Holding). h.kept) c.self.view_is) ready.states_are);
      near = rw (c.install_checkpoints.ensures.points, ready.points_are, ← checkpoint_interval, ready.spacing_is) (points-kept (change_by c.args.self.now c.args.new c.args.splice) ready.meeting c.requires.change ready.is_first);
      spaced = c.self.invariant.spaced;
      few = c.requires.few;
    }

pub invariant_of-self-2 : goal.invariant_of-self-2
invariant_of-self-2 g c = fresh-now g c

pub returns-clause-fresh : goal.returns-clause-fresh
returns-clause-fresh g c = fresh-now g c

pub returns-clause-reuse : goal.returns-clause-reuse
returns-clause-reuse g c =
    let ready : IsReady g.M.Machine.meaning (change_by c.args.self.now c.args.new c.args.splice) c.args.self.now.kept c.in_ok-ready.ready = c.in_ok-ready.ensures.ready in
    record {
      cost = record { meeting = ready.meeting; is_first = ready.is_first; is_cost = rw (ready.at_is, ready.from_is) refl };
      are_points = rw (c.install_checkpoints.ensures.points, ready.spacing_is, ready.points_are) refl;
    }

pub returns-in_err-reserve-clause-refused : goal.returns-in_err-reserve-clause-refused
returns-in_err-reserve-clause-refused g c =
    let change = change_by c.args.self.now c.args.new c.args.splice in
    let ready : IsReady g.M.Machine.meaning (change_by c.args.self.now c.args.new c.args.splice) c.args.self.now.kept c.in_ok-ready.ready = c.in_ok-ready.ensures.ready in
    let own : IsCost change (stop change ready.meeting - start change) = record { meeting = ready.meeting; is_first = ready.is_first; is_cost = refl } in
    on_err_always c.from_residual-in_err-reserve.result (λ n cost.
    let same = cost-one change (stop change ready.meeting - start change) n own cost in
    omega (arith, same, c.in_ok-ready.ensures.counted, ready.from_is, ready.at_is))
