use Rattle.std.proofs.Common.{◌≡◌, refl, sym, subst}
use Rattle.std.specs.Prelude.{Ok}
use Rattle.rb_script.specs.Edits.{edited}
use Rattle.rb_replay.specs.Run.{outputs}
use Rattle.rb_replay.specs.Holding.{IsOneRun}
use Rattle.rb_replay.proofs.RunLaws.{length-outputs}
use Rattle.rb_replay.proofs.ChangeLaws.{made-of, splice-change, expect-edit, accept-edit}
use Rattle.rb_replay.proofs.session.Session.edit.Goals as goal

pub edited-requires : goal.edited-requires
edited-requires g c = rw c.self.invariant.answered (length-outputs c.self.inside.script)

pub replay-requires-clause-change : goal.replay-requires-clause-change
replay-requires-clause-change g c =
    let fresh : IsOneRun c.args.self.now = subst IsOneRun c.self.view_is c.self.invariant in
    let made : edited c.args.self.now.script c.args.edit.now (outputs c.args.self.now.script) ≡ Ok c.in_ok-new.new = made-of c.args.self.now _ c.args.edit.now c.self.inside.outputs (Ok c.in_ok-new.new) c.self.view_is c.self.invariant refl c.in_ok-new.ensures.exact in
    (splice-change c.args.self.now c.args.edit.now c.in_ok-new.new c.in-Replay.splice fresh made (sym c.in-Replay.ensures)).is

pub replay-requires-clause-whole : goal.replay-requires-clause-whole
replay-requires-clause-whole g c =
    let fresh : IsOneRun c.args.self.now = subst IsOneRun c.self.view_is c.self.invariant in
    let made : edited c.args.self.now.script c.args.edit.now (outputs c.args.self.now.script) ≡ Ok c.in_ok-new.new = made-of c.args.self.now _ c.args.edit.now c.self.inside.outputs (Ok c.in_ok-new.new) c.self.view_is c.self.invariant refl c.in_ok-new.ensures.exact in
    λ _. (splice-change c.args.self.now c.args.edit.now c.in_ok-new.new c.in-Replay.splice fresh made (sym c.in-Replay.ensures)).one.whole

pub expect-requires : goal.expect-requires
expect-requires g c =
    let made : edited c.args.self.now.script c.args.edit.now (outputs c.args.self.now.script) ≡ Ok c.in_ok-new.new = made-of c.args.self.now _ c.args.edit.now c.self.inside.outputs (Ok c.in_ok-new.new) c.self.view_is c.self.invariant refl c.in_ok-new.ensures.exact in
    let facts = expect-edit c.args.self.now.script c.in_ok-new.new c.args.edit.now c.in-Expect.place (sym c.in-Expect.ensures) made in
    record { same = facts.same; first = facts.first; within = facts.within; new_mismatches = facts.new_mismatches }

pub accept-requires : goal.accept-requires
accept-requires g c =
    let made : edited c.args.self.now.script c.args.edit.now (outputs c.args.self.now.script) ≡ Ok c.in_ok-new.new = made-of c.args.self.now _ c.args.edit.now c.self.inside.outputs (Ok c.in_ok-new.new) c.self.view_is c.self.invariant refl c.in_ok-new.ensures.exact in
    let facts = accept-edit c.args.self.now.script c.in_ok-new.new c.args.edit.now (sym c.in-Accept.ensures) made in
    record { same = facts.0; none = facts.1 }
