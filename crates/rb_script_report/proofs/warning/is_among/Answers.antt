use Rattle.std.proofs.Common.{◌∙◌, true, false, List, ap, sym, arith}
use Rattle.std.specs.List.{list_any}
use Rattle.std.specs.Str.{bytes_eq}
use Rattle.std.proofs.lemmas.List.{drop_all}
use Rattle.rb_script.specs.Lines.{Line}
use Rattle.rb_script_report.proofs.ShownLaws.{any-step}
use Rattle.rb_script_report.proofs.warning.is_among.Goals as goal

pub returns-then-is_same_text : goal.returns-then-is_same_text
returns-then-is_same_text c =
    sym (any-step (λ (came : Line). bytes_eq came c.args.line.now) c.args.lines.now c.loop-i.i c.line.result.now true c.line.ensures (sym c.is_same_text.ensures ∙ c.if-is_same_text.true)) ∙ c.loop-i.invariant

pub loop-i-preserved : goal.loop-i-preserved
loop-i-preserved c =
    sym (any-step (λ (came : Line). bytes_eq came c.args.line.now) c.args.lines.now c.loop-i.i c.line.result.now false c.line.ensures (sym c.is_same_text.ensures ∙ c.if-is_same_text.false)) ∙ c.loop-i.invariant

pub returns : goal.returns
returns c =
    let none = drop_all c.loop-i.i c.args.lines.now (omega (arith, c.loop-i-test.false, c.len-i-end.ensures)) in
    sym (ap (λ (ls : List Line). list_any (λ (came : Line). bytes_eq came c.args.line.now) ls) none) ∙ c.loop-i.invariant
