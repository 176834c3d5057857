use Rattle.std.proofs.Common.{◌∙◌, true, false, List, length, ap, sym, arith}
use Rattle.std.specs.Prelude.{nat_lt}
use Rattle.std.proofs.lemmas.List.{drop_all}
use Rattle.rb_script.specs.declared.limits.TheConstants.{MAX_LINE}
use Rattle.rb_script.specs.Lines.{Line}
use Rattle.rb_script_report.specs.Refusing.{has_long_line}
use Rattle.rb_script_report.proofs.ShownLaws.{any-step}
use Rattle.rb_script_report.proofs.written.has_long_line.Goals as goal

pub returns-then-is_long : goal.returns-then-is_long
returns-then-is_long c =
    sym (any-step (λ (line : Line). nat_lt MAX_LINE (length line)) c.args.lines.now c.loop-i.i c.line.result.now true c.line.ensures (sym c.is_long.ensures ∙ c.if-is_long.true)) ∙ c.loop-i.invariant

pub loop-i-preserved : goal.loop-i-preserved
loop-i-preserved c =
    sym (any-step (λ (line : Line). nat_lt MAX_LINE (length line)) c.args.lines.now c.loop-i.i c.line.result.now false c.line.ensures (sym c.is_long.ensures ∙ c.if-is_long.false)) ∙ c.loop-i.invariant

pub returns : goal.returns
returns c =
    let none = drop_all c.loop-i.i c.args.lines.now (omega (arith, c.loop-i-test.false, c.len-i-end.ensures)) in
    sym (ap (λ (ls : List Line). has_long_line ls) none) ∙ c.loop-i.invariant
