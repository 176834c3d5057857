use Rattle.std.proofs.Common.{◌∙◌, ℕ, true, false, List, drop, ap, sym, arith}
use Rattle.std.proofs.lemmas.List.{drop_all}
use Rattle.rb_script_report.specs.Refusing.{has_long_line, bad_head}
use Rattle.rb_script_report.proofs.AcceptLaws.{bad-step}
use Rattle.rb_script_report.proofs.written.bad_head.Goals as goal

pub returns-then-has_long_line : goal.returns-then-has_long_line
returns-then-has_long_line c =
    sym (bad-step c.args.heads.now c.args.expected.now c.loop-i.i c.number_at-line.result c.at.result.now.value true c.number_at-line.ensures c.at.ensures (ap has_long_line (sym c.deref.ensures) ∙ sym c.has_long_line.ensures ∙ c.if-has_long_line.true)) ∙ c.loop-i.invariant

pub loop-i-preserved : goal.loop-i-preserved
loop-i-preserved c =
    sym (bad-step c.args.heads.now c.args.expected.now c.loop-i.i c.number_at-line.result c.at.result.now.value false c.number_at-line.ensures c.at.ensures (ap has_long_line (sym c.deref.ensures) ∙ sym c.has_long_line.ensures ∙ c.if-has_long_line.false)) ∙ c.loop-i.invariant

pub returns : goal.returns
returns c =
    let none = drop_all c.loop-i.i c.args.heads.now (omega (arith, c.loop-i-test.false, c.len-i-end.ensures, c.requires)) in
    sym (ap (λ (ns : List ℕ). bad_head ns (drop c.loop-i.i c.args.expected.now)) none) ∙ c.loop-i.invariant
