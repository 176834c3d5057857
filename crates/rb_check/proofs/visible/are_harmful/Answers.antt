use Rattle.std.proofs.Common.{◌∙◌, true, false, List, ap, sym, arith}
use Rattle.std.specs.List.{list_any}
use Rattle.std.proofs.lemmas.List.{drop_all}
use Rattle.rb_script_report.proofs.ShownLaws.{any-step}
use Rattle.rb_check.specs.Visible.{is_harmful}
use Rattle.rb_check.proofs.visible.are_harmful.Goals as goal

pub returns-then-is_harmful : goal.returns-then-is_harmful
returns-then-is_harmful c =
    sym (any-step is_harmful c.args.lines.now c.loop-i.i c.line.result.now true c.line.ensures (sym c.is_harmful.ensures ∙ c.if-is_harmful.true)) ∙ c.loop-i.invariant

pub loop-i-preserved : goal.loop-i-preserved
loop-i-preserved c =
    sym (any-step is_harmful c.args.lines.now c.loop-i.i c.line.result.now false c.line.ensures (sym c.is_harmful.ensures ∙ c.if-is_harmful.false)) ∙ c.loop-i.invariant

pub returns : goal.returns
returns c =
    let lines = c.args.lines.now in
    sym (ap (λ (ls : List (List _)). list_any is_harmful ls) (drop_all c.loop-i.i lines (omega (arith, c.loop-i-test.false, c.len-i-end.ensures)))) ∙ c.loop-i.invariant
