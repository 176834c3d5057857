use Rattle.std.proofs.Common.{◌≡◌, ◌<◌, ℕ, length, ap, ◌∙◌, get_or, arith}
use Rattle.std.proofs.lemmas.Grind.{common_steps}
use Rattle.rb_replay.specs.Run.{state}
use Rattle.rb_replay.proofs.PartLaws.{map_at}
use Rattle.rb_replay.proofs.ReadyLaws.{kept-rising}
use Rattle.rb_replay.proofs.session.Session.last_checkpoint.Goals as goal

pub find_start-index-requires-clause-rising : goal.find_start-index-requires-clause-rising
find_start-index-requires-clause-rising g c =
    rw c.deref.ensures.value (kept-rising c.self.inside.checkpoint_interval _ c.self.inside.points.items c.self.invariant.near)

pub returns-clause-machine : goal.returns-clause-machine
returns-clause-machine g c =
    let i : ℕ = c.find_start-index.result in
    let within : c.find_start-index.result < length c.self.inside.points.items = rw c.deref.ensures.value at c.find_start-index.ensures.within in
    let point : c.index-2.result.now ≡ get_or c.self.inside.points.items c.find_start-index.result 0 = grind (arith, common_steps) in
    rw (← c.self.view_is, point) (c.in_ok-machine.ensures ∙ ap g.M.Machine.meaning c.index.ensures
    ∙ map_at g.M.Machine.meaning (state c.self.inside.script) c.self.inside.kept.items c.self.inside.points.items c.find_start-index.result c.index.result.now 0 c.self.invariant.states within)
