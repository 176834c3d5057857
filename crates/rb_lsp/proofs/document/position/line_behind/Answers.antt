use Rattle.std.proofs.Common.{◌+◌, ◌∙◌, ◌<◌, arith, sym, length, drop, length-drop}
use Rattle.std.proofs.lemmas.List.{take_rest}
use Rattle.rb_lsp.proofs.BehindLaws.{behind_one, behind_two, byte_there, none_before}
use Rattle.rb_lsp.proofs.document.position.line_behind.Goals as goal

pub returns-then-ends_line-clause-next : goal.returns-then-ends_line-clause-next
returns-then-ends_line-clause-next c =
    let within = rw take_rest at c.line_len.ensures.within in
    let inside : c.args.at + c.line_len.result < length c.args.text.now = omega (arith, within, length-drop c.args.at c.args.text.now) in
    behind_one c.args.at c.line_len.result c.args.text.now inside (rw take_rest at c.line_len.ensures.before) (rw take_rest at (sym c.ends_line.ensures ∙ c.if-ends_line.true))

pub returns-clause-next : goal.returns-clause-next
returns-clause-next c =
    let within = rw take_rest at c.line_len.ensures.within in
    let inside : c.args.at + c.line_len.result < length c.args.text.now = omega (arith, within, length-drop c.args.at c.args.text.now) in
    let short : c.line_len.result < length (drop c.args.at c.args.text.now) = omega (arith, inside, length-drop c.args.at c.args.text.now) in
    let is = (rw take_rest at c.line_len.ensures.end) short in
    behind_two c.args.at c.line_len.result c.args.text.now inside (rw take_rest at c.line_len.ensures.before)
    (byte_there c.args.at c.line_len.result c.args.text.now is) (rw take_rest at (sym c.ends_line.ensures ∙ c.if-ends_line.false))

pub returns-then-end-text-clause-last : goal.returns-then-end-text-clause-last
returns-then-end-text-clause-last c =
    λ j from few. none_before c.args.at c.line_len.result c.args.text.now (rw take_rest at c.line_len.ensures.before) j from (omega (arith, few, c.if-end-text.true))
