use Rattle.std.proofs.Common.{◌∙◌, ap, arith, fold, sym, subst, take}
use Rattle.std.proofs.lemmas.List.{take_all}
use Rattle.std.proofs.lemmas.List.Sums.{fold_more}
use Rattle.clap.specs.Words.{App}
use Rattle.rb_args.specs.CommandLine.{IsMade}
use Rattle.rb_args.proofs.commands.with_parts.Goals as goal

pub loop-part-init : goal.loop-part-init
loop-part-init g c = λ app made. made

pub loop-part-preserved : goal.loop-part-preserved
loop-part-preserved g c = λ app made.
    let parts = c.args.parts.now in
    let i = c.loop-part.part-index in
    let part = c.part-item.result in
    let before = fold g.P.CommandLinePart.added app (take i parts) in
    let more = fold_more g.P.CommandLinePart.added app parts i part c.loop-part-test.true ∙ ap (g.P.CommandLinePart.added before) (sym c.part-item.is) in
    subst (λ (a : App). IsMade c.with_part-made.result a) (sym more) (c.with_part-made.ensures _ (c.loop-part.invariant app made))

pub returns : goal.returns
returns g c = λ app made.
    subst (λ parts. IsMade c.loop-part.made (fold g.P.CommandLinePart.added app parts)) (take_all c.loop-part.part-index c.args.parts.now (omega arith)) (c.loop-part.invariant app made)
