use Rattle.std.proofs.Common.{◌≡◌, ◌+◌, ◌-◌, ◌<◌, ◌≤◌, ℕ, length, map, arith, sym, ◌∙◌, ap, List, ◌++◌, ◌∷◌, [], subst, refl, inl, inr}
use Rattle.std.specs.Prelude.{Contains}
use Rattle.std.proofs.lemmas.Bool.{cases_lt}
use Rattle.std.proofs.lemmas.Grind.{common_steps}
use Rattle.rb_machine.specs.Cluster.{Cluster}
use Rattle.rb_replay.specs.Run.{state}
use Rattle.rb_replay.specs.Holding.{Holding, IsOneRun}
use Rattle.rb_replay.specs.Reuse.{change_by, start, old_point, Meets}
use Rattle.rb_replay.proofs.ReuseLaws.{cost-at_least, unmet_more, start-le, meets-within}
use Rattle.rb_replay.proofs.ReadyLaws.{kept-rising, states-before, on_err_always}
use Rattle.rb_replay.proofs.RunningLaws.{running-run, running-paced, running-end, running-meeting, states-more, same-length}
use Rattle.rb_replay.proofs.session.Session.run_on.Goals as goal

pub count_below-index-requires : goal.count_below-index-requires
count_below-index-requires g c = rw c.deref.ensures.value (kept-rising c.self.inside.checkpoint_interval _ c.self.inside.points.items c.self.invariant.near)

pub steps-init : goal.steps-init
steps-init g c =
    let le : start (change_by c.args.self.now c.args.new.now c.args.splice) ≤ c.args.splice.front = start-le (change_by c.args.self.now c.args.new.now c.args.splice) in
    let begins : c.new-running.result.from ≡ start (change_by c.args.self.now c.args.new.now c.args.splice) = c.new-running.ensures.from ∙ c.in_ok-from.ensures.point in
    let at : c.new-running.result.at ≡ c.new-running.result.from = c.new-running.ensures.at ∙ sym c.new-running.ensures.from in
    let before : c.in_ok-from.from ≤ c.args.splice.front = omega (arith, c.in_ok-from.ensures.point, le) in
    let first : c.new-running.result.at - c.args.splice.new_rest + c.args.splice.old_rest ≡ c.args.splice.old_rest = omega (arith, at, begins, le, c.requires.change.new_from) in
    let points : c.deref.result.now ≡ c.args.self.now.points = c.deref.ensures.value ∙ ap (λ (h : Holding). h.points) c.self.view_is in
    record {
      begins = begins;
      spaced = c.new-running.ensures.checkpoint_interval ∙ ap (λ (h : Holding). h.checkpoint_interval) c.self.view_is;
      run = running-run g.M.Machine.meaning c.args.new.now c.new-running.result c.new-running.ensures.outputs c.new-running.ensures.points c.new-running.ensures.kept at (omega (arith, begins, le, c.requires.change.new_from, c.requires.change.new_within));
      paced = running-paced c.new-running.result c.new-running.ensures.points at (c.new-running.ensures.until_checkpoint ∙ sym c.new-running.ensures.checkpoint_interval);
      here = c.in_ok-from.ensures.machine ∙ states-before (change_by c.args.self.now c.args.new.now c.args.splice) c.in_ok-from.from c.requires.change before ∙ ap (state c.args.new.now) (sym c.new-running.ensures.at);
      next = rw (first, ← points) c.count_below-index.ensures.next;
      unmet = λ t lt m. absurd (omega (arith, m.from_start, at, begins));
      counted = omega (arith, at);
    }

pub meets-requires-clause-paired : goal.meets-requires-clause-paired
meets-requires-clause-paired g c = rw (c.deref-in-steps.ensures.value, c.deref-in-steps-2.ensures.value) (same-length g.M.Machine.meaning (state c.self.inside.script) c.self.inside.kept.items c.self.inside.points.items c.self.invariant.states)

pub meets-requires-clause-rising : goal.meets-requires-clause-rising
meets-requires-clause-rising g c = rw c.deref-in-steps.ensures.value (kept-rising c.self.inside.checkpoint_interval _ c.self.inside.points.items c.self.invariant.near)

-- what a test that failed says
differs : {M : Type 0} (meaning : M → Cluster) (h : Holding) (inside : Holding) (ps : List ℕ) (kept : List M) (x : Cluster) (at r t : ℕ) → inside ≡ h → IsOneRun inside → ps ≡ inside.points → map meaning kept ≡ inside.kept
    → ((f : ℕ → Cluster) → map meaning kept ≡ map f ps → t ≤ at → Contains ps (at - t + r) → x ≡ f (at - t + r) → ⊥)
    → t ≤ at → Contains h.points (at - t + r) → x ≡ state h.script (at - t + r) → ⊥
differs meaning h inside ps kept x at r t view fresh points states unmet le has same =
    let placed : ps ≡ h.points = points ∙ ap (λ (h : Holding). h.points) view in
    let stated : map meaning kept ≡ map (state h.script) ps = states ∙ ap (λ (h : Holding). h.kept) view ∙ (subst IsOneRun view fresh).states ∙ ap (map (state h.script)) (sym placed) in
    unmet (state h.script) stated le (subst (λ (l : List ℕ). Contains l (at - t + r)) (sym placed) has) same

pub returns-in_err-retain_checkpoint-clause-refused : goal.returns-in_err-retain_checkpoint-clause-refused
returns-in_err-retain_checkpoint-clause-refused g c =
    on_err_always c.from_residual-in_err-retain_checkpoint.result (λ n cost.
    let least = cost-at_least (change_by c.args.self.now c.args.new.now c.args.splice) c.steps.running.at n c.steps.invariant.unmet c.steps.invariant.run.within cost in
    omega (arith, least, c.steps.invariant.counted, c.steps.invariant.begins))

pub returns-then-running-len-clause-run : goal.returns-then-running-len-clause-run
returns-then-running-len-clause-run g c =
    let at : c.retain_checkpoint.new.self.at ≡ c.steps.running.at = c.retain_checkpoint.ensures.at in
    let end : c.retain_checkpoint.new.self.at ≡ length c.args.new.now.blocks = c.if-running-len.true ∙ c.len.ensures in
    let from : c.retain_checkpoint.new.self.from ≡ start (change_by c.args.self.now c.args.new.now c.args.splice) = c.retain_checkpoint.ensures.from ∙ c.steps.invariant.begins in
    let checkpoint_interval : c.retain_checkpoint.new.self.checkpoint_interval ≡ c.args.self.now.checkpoint_interval = c.retain_checkpoint.ensures.checkpoint_interval ∙ c.steps.invariant.spaced in
    let unmet : (t : ℕ) → t < c.steps.running.at + 1 → Meets (change_by c.args.self.now c.args.new.now c.args.splice) t → ⊥ =
    unmet_more (change_by c.args.self.now c.args.new.now c.args.splice) c.steps.running.at (g.M.Machine.meaning c.steps.machine) c.steps.invariant.unmet c.steps.invariant.here
    (differs g.M.Machine.meaning c.args.self.now _ c.deref-in-steps.result.now c.deref-in-steps-2.result.now (g.M.Machine.meaning c.steps.machine) c.steps.running.at c.args.splice.old_rest c.args.splice.new_rest c.self.view_is c.self.invariant c.deref-in-steps.ensures.value (ap (map g.M.Machine.meaning) c.deref-in-steps-2.ensures.value) (λ f s. c.meets.ensures.unmet f s c.steps-test.true)) in
    record {
      is_first = λ t m. let within : t ≤ length c.args.new.now.blocks = meets-within (change_by c.args.self.now c.args.new.now c.args.splice) t c.requires.change m in unmet t (omega (arith, at, end)) m;
      from_is = from;
      at_is = end;
      spacing_is = checkpoint_interval;
      has_run = c.in_ok-retain_checkpoint.ensures.run c.args.new.now c.steps.invariant.run c.steps.invariant.here;
      points_are = running-end c.retain_checkpoint.new.self (change_by c.args.self.now c.args.new.now c.args.splice) c.in_ok-retain_checkpoint.ensures.paced checkpoint_interval from end;
    }

pub returns-in_err-machine-clause-refused : goal.returns-in_err-machine-clause-refused
returns-in_err-machine-clause-refused g c =
    let within : c.steps.running.at < length c.args.new.now.blocks = less c.steps.running.at c.retain_checkpoint.new.self.at c.len.result (length c.args.new.now.blocks) c.retain_checkpoint.ensures.at c.len.ensures c.if-running-len.false c.steps.invariant.run.within in
    let unmet : (t : ℕ) → t < c.steps.running.at + 1 → Meets (change_by c.args.self.now c.args.new.now c.args.splice) t → ⊥ =
    unmet_more (change_by c.args.self.now c.args.new.now c.args.splice) c.steps.running.at (g.M.Machine.meaning c.steps.machine) c.steps.invariant.unmet c.steps.invariant.here
    (differs g.M.Machine.meaning c.args.self.now _ c.deref-in-steps.result.now c.deref-in-steps-2.result.now (g.M.Machine.meaning c.steps.machine) c.steps.running.at c.args.splice.old_rest c.args.splice.new_rest c.self.view_is c.self.invariant c.deref-in-steps.ensures.value (ap (map g.M.Machine.meaning) c.deref-in-steps-2.ensures.value) (λ f s. c.meets.ensures.unmet f s c.steps-test.true)) in
    on_err_always c.from_residual-in_err-machine.result (λ n cost.
    let least = cost-at_least (change_by c.args.self.now c.args.new.now c.args.splice) (c.steps.running.at + 1) n unmet (omega arith) cost in
    omega (arith, least, c.step.ensures.counted, c.steps.invariant.counted, c.steps.invariant.begins, c.steps.invariant.run.from_first))
  where
    less : (at kept len n : ℕ) → kept ≡ at → len ≡ n → (kept ≡ len → ⊥) → at ≤ n → at < n
    less at kept len n same long other le = elim (cases_lt at n) [ inl lt ↦ lt | inr ge ↦ absurd (other (omega arith)) ]

pub steps-preserved : goal.steps-preserved
steps-preserved g c =
    let at : c.step.new.self.at ≡ c.steps.running.at + 1 = c.in_ok-machine.ensures.at ∙ ap (λ (n : ℕ). n + 1) c.retain_checkpoint.ensures.at in
    let from : c.step.new.self.from ≡ c.steps.running.from = c.step.ensures.from ∙ c.retain_checkpoint.ensures.from in
    let points : c.deref-in-steps.result.now ≡ c.args.self.now.points = c.deref-in-steps.ensures.value ∙ ap (λ (h : Holding). h.points) c.self.view_is in
    let unmet : (t : ℕ) → t < c.steps.running.at + 1 → Meets (change_by c.args.self.now c.args.new.now c.args.splice) t → ⊥ =
    unmet_more (change_by c.args.self.now c.args.new.now c.args.splice) c.steps.running.at (g.M.Machine.meaning c.steps.machine) c.steps.invariant.unmet c.steps.invariant.here
    (differs g.M.Machine.meaning c.args.self.now _ c.deref-in-steps.result.now c.deref-in-steps-2.result.now (g.M.Machine.meaning c.steps.machine) c.steps.running.at c.args.splice.old_rest c.args.splice.new_rest c.self.view_is c.self.invariant c.deref-in-steps.ensures.value (ap (map g.M.Machine.meaning) c.deref-in-steps-2.ensures.value) (λ f s. c.meets.ensures.unmet f s c.steps-test.true)) in
    record {
      begins = from ∙ c.steps.invariant.begins;
      spaced = c.step.ensures.checkpoint_interval ∙ c.retain_checkpoint.ensures.checkpoint_interval ∙ c.steps.invariant.spaced;
      run = c.in_ok-machine.ensures.run;
      paced = c.in_ok-machine.ensures.paced;
      here = c.in_ok-machine.ensures.machine;
      next = rw (at, ← points) (c.meets.ensures.next c.steps-test.true);
      unmet = λ t lt m. unmet t (omega (arith, at)) m;
      counted = omega (arith, at, from, c.step.ensures.counted, c.steps.invariant.counted, c.steps.invariant.run.from_first);
    }

pub returns-clause-run : goal.returns-clause-run
returns-clause-run g c =
    let placed : c.deref-in-steps.result.now ≡ c.args.self.now.points = c.deref-in-steps.ensures.value ∙ ap (λ (h : Holding). h.points) c.self.view_is in
    let stated : map g.M.Machine.meaning c.deref-in-steps-2.result.now ≡ map (state c.args.self.now.script) c.deref-in-steps.result.now =
    ap (map g.M.Machine.meaning) c.deref-in-steps-2.ensures.value ∙ ap (λ (h : Holding). h.kept) c.self.view_is ∙ (let fresh : IsOneRun c.args.self.now = subst IsOneRun c.self.view_is c.self.invariant in fresh.states) ∙ ap (map (state c.args.self.now.script)) (sym placed) in
    let met = c.meets.ensures.met (state c.args.self.now.script) stated c.steps-test.false in
    let kept : c.push.new.self.items ≡ c.steps.running.kept.items ++ c.steps.machine ∷ [] = grind (arith, common_steps) in
    let points : c.push-2.new.self.items ≡ c.steps.running.points.items ++ c.steps.running.at ∷ [] = grind (arith, common_steps) in
    let one : 1 ≤ c.steps.running.checkpoint_interval = omega (arith, c.steps.invariant.spaced, c.requires.change.spaced) in
    record {
      is_first = (
        record {
          from_start = omega (arith, c.steps.invariant.begins, c.steps.invariant.run.from_first);
          in_rest = met.0;
          is_kept = subst (λ (ps : List ℕ). Contains ps (old_point (change_by c.args.self.now c.args.new.now c.args.splice) c.steps.running.at)) placed met.1;
          same = sym c.steps.invariant.here ∙ met.2;
        },
        c.steps.invariant.unmet,
      );
      from_is = c.steps.invariant.begins;
      at_is = refl;
      spacing_is = c.steps.invariant.spaced;
      has_run = record {
        from_first = c.steps.invariant.run.from_first;
        within = c.steps.invariant.run.within;
        outputs_on = c.steps.invariant.run.outputs_on;
        states_are = rw (kept, points) (states-more g.M.Machine.meaning c.args.new.now c.steps.running.kept.items c.steps.running.points.items c.steps.machine c.steps.running.at c.steps.invariant.run.states_are c.steps.invariant.here);
      };
      points_are = points ∙ ap (λ (ps : List ℕ). ps ++ c.steps.running.at ∷ []) (running-meeting c.steps.running (change_by c.args.self.now c.args.new.now c.args.splice) c.steps.running.at one c.steps.invariant.run.from_first c.steps.invariant.paced c.steps.invariant.spaced c.steps.invariant.begins refl);
    }
