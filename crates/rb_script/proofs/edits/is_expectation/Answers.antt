use Rattle.std.proofs.Common.{◌&&◌, sym, ap, ◌∙◌, arith}
use Rattle.std.specs.List.{list_all}
use Rattle.rb_script.specs.Edits.{is_text_line}
use Rattle.rb_script.proofs.SharedLaws.{tests_more, tests_not, tests_end}
use Rattle.rb_script.proofs.edits.is_expectation.Goals as goal

pub returns-then-not-is_text_line : goal.returns-then-not-is_text_line
returns-then-not-is_text_line c =
    let ls = c.args.lines.now in
    sym (ap (λ t. t && list_all is_text_line ls) (sym c.is_readable.ensures ∙ c.if-not-is_readable.false)
    ∙ tests_not is_text_line ls c.loop-i.i c.line.result.now c.line.ensures (sym c.is_text_line.ensures ∙ c.if-not-is_text_line.true))

pub loop-i-preserved : goal.loop-i-preserved
loop-i-preserved c =
    tests_more is_text_line c.args.lines.now c.loop-i.i c.line.result.now c.line.ensures c.loop-i.invariant (sym c.is_text_line.ensures ∙ c.if-not-is_text_line.false)

pub returns : goal.returns
returns c =
    let ls = c.args.lines.now in
    sym (ap (λ t. t && list_all is_text_line ls) (sym c.is_readable.ensures ∙ c.if-not-is_readable.false)
    ∙ tests_end is_text_line ls c.loop-i.i (omega arith) c.loop-i.invariant)
