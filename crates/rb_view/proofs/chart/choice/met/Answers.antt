use Rattle.std.proofs.Common.{◌∙◌, ◌-◌, ◌+◌, ℕ, List, drop, ap, sym, eq-eqb, ne_eqb, arith}
use Rattle.std.proofs.lemmas.List.{drop_all}
use Rattle.rb_message.specs.declared.message.Message.{Message}
use Rattle.rb_machine.specs.Pending.{is_meant}
use Rattle.rb_view.specs.InFlight.{met_from}
use Rattle.rb_view.proofs.AlikeLaws.{met_here, met_other, met_skipped}
use Rattle.rb_view.proofs.chart.choice.met.Goals.{then-is_meant+else-skip-eq0, else-is_meant}
use Rattle.rb_view.proofs.chart.choice.met.Goals as goal

pub returns-then-skip-eq0-clause-position : goal.returns-then-skip-eq0-clause-position
returns-then-skip-eq0-clause-position c =
    sym (c.loop-at.invariant
    ∙ met_here (is_meant c.args.id c.args.choice.now) c.loop-at.skip c.args.messages.now c.loop-at.at c.message_at.result.now c.message_at.ensures (sym c.is_meant.ensures ∙ c.if-is_meant.true)
    (eq-eqb c.loop-at.skip 0 c.if-skip-eq0.true))

pub loop-at-preserved : goal.loop-at-preserved
loop-at-preserved c =
    let meant = is_meant c.args.id c.args.choice.now in
    let ms = c.args.messages.now in
    let at = c.loop-at.at in
    c.loop-at.invariant
    ∙ (elim c.if-is_meant.branch [
      | then-is_meant+else-skip-eq0 w ↦
          met_skipped meant c.loop-at.skip ms at c.message_at.result.now c.message_at.ensures (sym c.is_meant.ensures ∙ w.if-is_meant.true) (ne_eqb c.loop-at.skip 0 w.if-skip-eq0.false)
          ∙ ap (λ (skip : ℕ). met_from meant skip (at + 1) (drop (at + 1) ms)) (sym w.skip-is)
      | else-is_meant w ↦
          met_other meant c.loop-at.skip ms at c.message_at.result.now c.message_at.ensures (sym c.is_meant.ensures ∙ w.if-is_meant.false)
          ∙ ap (λ (skip : ℕ). met_from meant skip (at + 1) (drop (at + 1) ms)) (sym w.skip-is)
    ])

pub returns-clause-position : goal.returns-clause-position
returns-clause-position c =
    sym (c.loop-at.invariant
    ∙ ap (λ (ms : List Message). met_from (is_meant c.args.id c.args.choice.now) c.loop-at.skip c.loop-at.at ms) (drop_all c.loop-at.at c.args.messages.now (omega arith)))
