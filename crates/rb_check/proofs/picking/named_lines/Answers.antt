use Rattle.std.proofs.Common.{◌≡◌, ◌+◌, ℕ, Bool, false, true, List, [], ◌∷◌, length, take, refl, sym, subst, arith}
use Rattle.std.specs.Prelude.{◌==◌}
use Rattle.std.proofs.lemmas.List.{take_all}
use Rattle.rb_check.specs.declared.target.Target.{Target}
use Rattle.rb_check.specs.Targets.{AreLines, IsOfScript, named, one, whole}
use Rattle.rb_check.proofs.ShownLaws.{some_there}
use Rattle.rb_check.proofs.TargetLaws.{more_lines, more_no_line, no_lines, target_at}
use Rattle.rb_check.proofs.picking.named_lines.Goals as goal

pub loop-target-init : goal.loop-target-init
loop-target-init g c =
    let tells = g.S.System.tells_one c.args.system.now in
    subst (λ (ls : List ℕ). AreLines tells c.args.path.now [] ls) (sym c.new-lines.ensures.items) (no_lines tells c.args.path.now)

pub loop-target-preserved-then-not-names : goal.loop-target-preserved-then-not-names
loop-target-preserved-then-not-names g c =
    let tells = g.S.System.tells_one c.args.system.now in
    let path = c.args.path.now in
    let targets = c.args.targets.now in
    let i = c.loop-target.target-index in
    let target = c.target-item.result in
    let other : IsOfScript tells path target false = subst (λ (b : Bool). IsOfScript tells path target b) c.if-not-names.true c.names.ensures in
    more_no_line tells path targets c.loop-target.lines.items i target (target_at targets i target c.loop-target-test.true c.target-item.is) c.loop-target.invariant other

pub loop-target-preserved : goal.loop-target-preserved
loop-target-preserved g c =
    let tells = g.S.System.tells_one c.args.system.now in
    let path = c.args.path.now in
    let targets = c.args.targets.now in
    let i = c.loop-target.target-index in
    let target = c.target-item.result in
    let line = c.in-Some.line in
    let yes : IsOfScript tells path target true = subst (λ (b : Bool). IsOfScript tells path target b) c.if-not-names.false c.names.ensures in
    subst (λ (ls : List ℕ). AreLines tells path (take (i + 1) targets) ls) (sym c.in_ok-push.ensures.items)
    (more_lines tells path targets c.loop-target.lines.items (line ∷ []) i target (target_at targets i target c.loop-target-test.true c.target-item.is) c.loop-target.invariant (one line yes c.in-Some.is refl))

pub returns-in_default : goal.returns-in_default
returns-in_default g c =
    let tells = g.S.System.tells_one c.args.system.now in
    let path = c.args.path.now in
    let targets = c.args.targets.now in
    let i = c.loop-target.target-index in
    let target = c.target-item.result in
    let yes : IsOfScript tells path target true = subst (λ (b : Bool). IsOfScript tells path target b) c.if-not-names.false c.names.ensures in
    whole i target (target_at targets i target c.loop-target-test.true c.target-item.is) yes c.in_default.is refl

pub returns-else-is_empty : goal.returns-else-is_empty
returns-else-is_empty g c =
    let tells = g.S.System.tells_one c.args.system.now in
    let path = c.args.path.now in
    let targets = c.args.targets.now in
    let lines = c.loop-target.lines.items in
    let some : (length lines == 0) ≡ false = grind (arith, c.is_empty.ensures, c.if-is_empty.false) in
    named lines (subst (λ (ts : List Target). AreLines tells path ts lines) (take_all c.loop-target.target-index targets (omega (arith, c.loop-target-test.false))) c.loop-target.invariant) (some_there lines some) refl
