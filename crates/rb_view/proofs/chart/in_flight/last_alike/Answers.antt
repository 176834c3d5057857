use Rattle.std.proofs.Common.{◌∙◌, ◌+◌, Bool, List, drop, length, Option, Some, None, ℕ, ap, sym, arith}
use Rattle.std.specs.Prelude.{if◌then◌else◌}
use Rattle.std.proofs.lemmas.List.{drop_all}
use Rattle.std.specs.Option.{option_or}
use Rattle.rb_message.specs.declared.message.Message.{Message}
use Rattle.rb_view.specs.InFlight.{last_alike}
use Rattle.rb_view.proofs.AlikeLaws.{last_step}
use Rattle.rb_view.proofs.chart.in_flight.last_alike.Goals as goal

pub loop-at-preserved : goal.loop-at-preserved
loop-at-preserved c =
    let m = c.args.message.now in
    let ms = c.args.messages.now in
    let at = c.loop-at.at in
    record {
      last = ap (λ (f : Option ℕ). option_or (last_alike m (at + 1) (drop (at + 1) ms)) f)
          (c.later-next.ensures.found ∙ ap (λ (b : Bool). option_or (if b then Some at else None) c.loop-at.found) c.is_alike.ensures)
          ∙ last_step m c.message_at-other.result.now ms at c.loop-at.found c.message_at-other.ensures ∙ c.loop-at.invariant.last;
      within = c.later-next.ensures.within (length ms) (omega arith) c.loop-at.invariant.within;
    }

pub returns-clause-position : goal.returns-clause-position
returns-clause-position c =
    sym (ap (λ (ms : List Message). option_or (last_alike c.args.message.now c.loop-at.at ms) c.loop-at.found) (drop_all c.loop-at.at c.args.messages.now (omega arith))) ∙ c.loop-at.invariant.last
