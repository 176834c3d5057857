use Rattle.std.proofs.Common.{◌≡◌, ◌<◌, length, get_or, ◌∙◌, eq-eqb}
use Rattle.std.proofs.lemmas.List.{get_or_default}
use Rattle.rb_replay.proofs.NextLaws.{next-past, next-none}
use Rattle.rb_replay.proofs.run.is_kept.Goals as goal

pub returns-in-Some-clause-none : goal.returns-in-Some-clause-none
returns-in-Some-clause-none c = λ no.
    let at : c.in-Some.kept.now ≡ get_or c.args.points.now c.args.index c.in-Some.kept.now = c.in-Some.ensures.lookup.1 in
    let differs : c.args.index < length c.args.points.now → get_or c.args.points.now c.args.index 0 ≡ c.args.point → ⊥ = λ lt is.
    let yes = eq-eqb c.in-Some.kept.now c.args.point (at ∙ get_or_default c.args.points.now c.args.index c.in-Some.kept.now 0 lt ∙ is) in absurd (cc (no, yes)) in
    (next-none c.args.points.now c.args.point c.args.index c.requires.rising c.requires.next differs, next-past c.args.points.now c.args.point c.args.index c.requires.next differs)
