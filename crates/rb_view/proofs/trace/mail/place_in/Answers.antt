use Rattle.std.proofs.Common.{◌∙◌, sym, arith}
use Rattle.std.proofs.lemmas.List.{drop_all}
use Rattle.rb_view.proofs.MailLaws.{drop_next, place_here, place_next, place_past}
use Rattle.rb_view.proofs.trace.mail.place_in.Goals as goal

pub returns-then-is_shown_as-clause-place : goal.returns-then-is_shown_as-clause-place
returns-then-is_shown_as-clause-place c =
    let next = drop_next c.args.on_way.now c.loop-i.i c.index-on_way-i.result c.loop-i-test.true c.index-on_way-i.is in
    omega (arith, c.loop-i.invariant, place_here c.args.text.now c.args.on_way.now c.loop-i.i c.index-on_way-i.result next (sym c.is_shown_as.ensures ∙ c.if-is_shown_as.true))

pub loop-i-preserved : goal.loop-i-preserved
loop-i-preserved c =
    let next = drop_next c.args.on_way.now c.loop-i.i c.index-on_way-i.result c.loop-i-test.true c.index-on_way-i.is in
    omega (arith, c.loop-i.invariant, place_next c.args.text.now c.args.on_way.now c.loop-i.i c.index-on_way-i.result next (sym c.is_shown_as.ensures ∙ c.if-is_shown_as.false))

pub returns-clause-place : goal.returns-clause-place
returns-clause-place c =
    omega (arith, c.loop-i.invariant, c.loop-i-test.false, place_past c.args.text.now _ (drop_all c.loop-i.i c.args.on_way.now (omega (arith, c.loop-i-test.false))))
