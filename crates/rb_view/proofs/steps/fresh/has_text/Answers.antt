use Rattle.std.proofs.Common.{◌∙◌, List, ap, sym, arith}
use Rattle.std.proofs.lemmas.List.{drop_all}
use Rattle.rb_script.specs.Lines.{Line}
use Rattle.rb_view.specs.NewRows.{has_text}
use Rattle.rb_view.proofs.KeepLaws.{found_here, not_here}
use Rattle.rb_view.proofs.steps.fresh.has_text.Goals as goal

pub returns-then-is_same : goal.returns-then-is_same
returns-then-is_same c =
    sym (c.loop-i.invariant ∙ found_here c.args.olds.now c.args.text.now c.line.result.now c.loop-i.i c.line.ensures (sym c.is_same.ensures ∙ c.if-is_same.true))

pub loop-i-preserved : goal.loop-i-preserved
loop-i-preserved c =
    c.loop-i.invariant ∙ not_here c.args.olds.now c.args.text.now c.line.result.now c.loop-i.i c.line.ensures (sym c.is_same.ensures ∙ c.if-is_same.false)

pub returns : goal.returns
returns c =
    sym (c.loop-i.invariant ∙ ap (λ (ls : List Line). has_text ls c.args.text.now) (drop_all c.loop-i.i c.args.olds.now (omega (arith, c.len-i-end.ensures))))
