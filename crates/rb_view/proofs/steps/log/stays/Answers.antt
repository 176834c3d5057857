use Rattle.std.proofs.Common.{◌≡◌, ◌∙◌, ◌<◌, ap, sym, arith}
use Rattle.rb_view.specs.Logs.{same_up_to}
use Rattle.rb_view.proofs.LogLaws.{past_none}
use Rattle.rb_view.proofs.steps.log.stays.Goals as goal

pub returns-then-from-first_index-clause-value : goal.returns-then-from-first_index-clause-value
returns-then-from-first_index-clause-value g c =
    let old = g.L.RaftLog.plain c.args.old.now in
    let new = g.L.RaftLog.plain c.args.new.now in
    let low : c.nearest-from.result < old.base = omega (arith, c.first_index.ensures, c.if-from-first_index.true) in
    sym (past_none old new c.nearest-from.result low) ∙ ap (same_up_to old new) c.nearest-from.ensures.value

pub returns-clause-value : goal.returns-clause-value
returns-clause-value g c =
    c.stays_past.ensures.value ∙ ap (same_up_to (g.L.RaftLog.plain c.args.old.now) (g.L.RaftLog.plain c.args.new.now)) c.nearest-from.ensures.value
