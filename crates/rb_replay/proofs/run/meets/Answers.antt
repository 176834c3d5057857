use Rattle.std.proofs.Common.{◌≡◌, ◌+◌, ◌-◌, ℕ, map, arith, sym, ap, ◌∙◌}
use Rattle.std.specs.Prelude.{IsTrue}
use Rattle.rb_machine.specs.Cluster.{Cluster}
use Rattle.rb_replay.proofs.PartLaws.{map_at}
use Rattle.rb_replay.proofs.NextLaws.{next-on}
use Rattle.rb_replay.proofs.run.meets.Goals as goal
use Rattle.rb_replay.proofs.run.meets.Given.{Over}

-- what is kept at the point that was found
found : (g : Over) (c : goal.After-same g) (f : ℕ → Cluster) → map g.M.Machine.meaning c.args.kept.now ≡ map f c.args.points.now → g.M.Machine.meaning c.index-kept-here.result ≡ f (c.args.at - c.args.splice.new_rest + c.args.splice.old_rest)
found g c f states =
    let here = c.is_kept.ensures.kept c.if-not-is_kept.false in
    ap g.M.Machine.meaning c.index-kept-here.is ∙ map_at g.M.Machine.meaning f c.args.kept.now c.args.points.now c.args.index.now c.index-kept-here.result 0 states here.0 ∙ ap f here.1

pub returns-clause-met : goal.returns-clause-met
returns-clause-met g c = λ f states yes.
    (omega arith, (c.is_kept.ensures.kept c.if-not-is_kept.false).2, c.same.ensures.0 yes ∙ found g c f states)

pub returns-clause-unmet : goal.returns-clause-unmet
returns-clause-unmet g c = λ f states no from has same.
    let yes : IsTrue c.same.result = c.same.ensures.1 (same ∙ sym (found g c f states)) in
    grind (arith, yes, no)

pub returns-clause-next : goal.returns-clause-next
returns-clause-next g c = λ no.
    let here = c.is_kept.ensures.kept c.if-not-is_kept.false in
    let on : c.args.at + 1 - c.args.splice.new_rest + c.args.splice.old_rest ≡ c.args.at - c.args.splice.new_rest + c.args.splice.old_rest + 1 = omega arith in
    rw on (next-on c.args.points.now (c.args.at - c.args.splice.new_rest + c.args.splice.old_rest) c.args.index.now c.requires.rising c.requires.next here.0 here.1)
