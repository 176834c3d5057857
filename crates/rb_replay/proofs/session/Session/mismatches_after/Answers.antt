use Rattle.std.proofs.Common.{◌-◌, ap, ◌∙◌, length, take, drop, refl, arith}
use Rattle.std.proofs.lemmas.Result.{IfOk-weaker}
use Rattle.rb_replay.specs.Run.{outputs}
use Rattle.rb_replay.specs.Reuse.{change_by, start, stop}
use Rattle.rb_replay.proofs.RunLaws.{length-outputs, take-between}
use Rattle.rb_replay.proofs.DifferingLaws.{differing-all}
use Rattle.rb_replay.proofs.ReadyLaws.{new_mismatches-ready, start-first}
use Rattle.rb_replay.proofs.session.Session.mismatches_after.Goals as goal

pub new_mismatches-requires-clause-order : goal.new_mismatches-requires-clause-order
new_mismatches-requires-clause-order g c = c.requires.run.has_run.from_first

pub new_mismatches-requires-clause-there : goal.new_mismatches-requires-clause-there
new_mismatches-requires-clause-there g c = omega (arith, c.requires.run.has_run.within, ap length c.requires.outputs, length-outputs c.args.new.now)

pub new_mismatches-requires-clause-new_mismatches : goal.new_mismatches-requires-clause-new_mismatches
new_mismatches-requires-clause-new_mismatches g c =
    let run = c.requires.run in
    let ch = change_by c.args.self.now c.args.new.now c.args.splice in
    let met = c.args.run.now.met in
    let all = outputs c.args.new.now in
    let on = take-between (start ch) (stop ch met) all (start-first ch met c.requires.change run.is_first) in
    rw (c.requires.outputs, run.from_is, run.at_is, c.bounds.ensures.old_stop)
    (new_mismatches-ready ch c.args.splice met (take (stop ch met - start ch) (drop (start ch) all)) refl refl c.requires.change (c.requires.whole c.in-Blocks.is) run.is_first on)

pub list_differing-requires-clause-there : goal.list_differing-requires-clause-there
list_differing-requires-clause-there g c = omega (arith, c.len.ensures, ap length c.requires.outputs, length-outputs c.args.new.now)

pub returns-in-Directives : goal.returns-in-Directives
returns-in-Directives g c = IfOk-weaker c.list_differing.result _ _
    (λ v e. e ∙ differing-all c.args.new.now c.args.new_outputs.now c.len.result c.requires.outputs c.len.ensures) c.list_differing.ensures
