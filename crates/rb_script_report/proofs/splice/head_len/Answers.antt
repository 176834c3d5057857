use Rattle.std.proofs.Common.{arith}
use Rattle.rb_script_report.proofs.SpliceLaws.{head_last, head_more, head_none}
use Rattle.rb_script_report.proofs.splice.head_len.Goals as goal

pub returns-then-not-continues : goal.returns-then-not-continues
returns-then-not-continues c =
    let one = head_last c.args.text.now c.loop-i.i c.line.result.now c.line.ensures c.continues.result c.continues.ensures c.if-not-continues.true in
    omega (arith, one, c.loop-i.invariant, c.loop-i.auto.i)

pub loop-i-preserved : goal.loop-i-preserved
loop-i-preserved c =
    let more = head_more c.args.text.now c.loop-i.i c.line.result.now c.line.ensures c.continues.result c.continues.ensures c.if-not-continues.false in
    omega (arith, more, c.loop-i.invariant)

pub returns : goal.returns
returns c =
    let none = head_none c.args.text.now c.loop-i.i (omega (arith, c.loop-i-test.false, c.len-i-end.ensures)) in
    omega (arith, none, c.loop-i.invariant, c.len.ensures, c.len-i-end.ensures, c.loop-i-test.false, c.requires, c.loop-i.auto.i-end)
