use Rattle.std.proofs.Common.{◌-◌, ◌∙◌, ap, sym}
use Rattle.std.proofs.lemmas.Result.{on_ok_weaker}
use Rattle.rb_machine.specs.Observers.{watched, after}
use Rattle.rb_cluster.proofs.RoundLaws.{settled_on, settled_quiet, settled_over}
use Rattle.rb_cluster.proofs.cluster.Cluster.run_rounds.Goals as goal

pub loop-round-preserved : goal.loop-round-preserved
loop-round-preserved g c =
    c.loop-round.invariant
    ∙ settled_on g.O.Observer.taking g.O.Observer.settling c.args.rounds c.loop-round._round (watched c.loop-round.self (g.O.Observer.meaning c.loop-round.observer)) (watched c.round.new.self (g.O.Observer.meaning c.round.new.observer)) c.args.ids.now c.loop-round-test.true
    (sym c.if-not-has_work.ensures) c.in_ok-round.ensures

pub returns-then-not-has_work : goal.returns-then-not-has_work
returns-then-not-has_work g c =
    sym (c.loop-round.invariant ∙ ap (after g.O.Observer.taking g.O.Observer.settling (g.O.Observer.meaning c.loop-round.observer)) (settled_quiet c.args.rounds (c.args.rounds - c.loop-round._round) c.loop-round.self c.args.ids.now (sym c.if-not-has_work.ensures)))

pub returns-then-has_work : goal.returns-then-has_work
returns-then-has_work g c =
    on_ok_weaker c.observe.result
    (λ shows. ap (watched c.loop-round.self) shows
    ∙ sym (c.loop-round.invariant ∙ ap (after g.O.Observer.taking g.O.Observer.settling (g.O.Observer.meaning c.loop-round.observer)) (settled_over c.args.rounds c.loop-round._round c.loop-round.self c.args.ids.now c.loop-round-test.false (sym c.if-has_work.ensures))))
    c.observe.ensures

pub returns : goal.returns
returns g c =
    sym (c.loop-round.invariant ∙ ap (after g.O.Observer.taking g.O.Observer.settling (g.O.Observer.meaning c.loop-round.observer)) (settled_quiet c.args.rounds (c.args.rounds - c.loop-round._round) c.loop-round.self c.args.ids.now (sym c.if-has_work.ensures)))
