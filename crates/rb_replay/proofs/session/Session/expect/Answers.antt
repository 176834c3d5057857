use Rattle.std.proofs.Common.{◌≡◌, ◌-◌, ◌≤◌, ap, subst, length, arith}
use Rattle.rb_script.specs.declared.limits.TheConstants.{MAX_DIRECTIVES}
use Rattle.rb_replay.specs.Run.{outputs}
use Rattle.rb_replay.specs.Holding.{IsOneRun}
use Rattle.rb_replay.proofs.RunLaws.{length-outputs, lengths-same}
use Rattle.rb_replay.proofs.FreshLaws.{fresh-same, held-outputs}
use Rattle.rb_replay.proofs.session.Session.expect.Goals as goal

pub invariant_of-self : goal.invariant_of-self
invariant_of-self g c = fresh-same c.args.self.now _ c.args.new c.in_ok-mismatches.mismatches.items c.self.view_is c.self.invariant c.requires.same c.in_ok-mismatches.ensures

pub returns-clause-fresh : goal.returns-clause-fresh
returns-clause-fresh g c = fresh-same c.args.self.now _ c.args.new c.in_ok-mismatches.mismatches.items c.self.view_is c.self.invariant c.requires.same c.in_ok-mismatches.ensures

pub new_mismatches-requires : goal.new_mismatches-requires
new_mismatches-requires g c =
    let fresh : IsOneRun c.args.self.now = subst IsOneRun c.self.view_is c.self.invariant in
    let held : c.self.inside.outputs ≡ outputs c.args.self.now.script = held-outputs c.self.view_is c.self.invariant in
    let one : c.args.place - (c.args.place - 1) ≡ 1 = omega (arith, c.requires.first) in
    let long : length c.args.new.blocks ≡ length c.args.self.now.script.blocks = lengths-same c.args.new c.args.self.now.script c.requires.same in
    let few : length c.args.self.now.script.blocks ≤ MAX_DIRECTIVES = fresh.few in
    record {
      few = omega (arith, long, few);
      small = omega arith;
      order = omega arith;
      there = omega (arith, ap length held, length-outputs c.args.self.now.script, c.requires.within);
      new_mismatches = rw (held, one) c.requires.new_mismatches;
    }
