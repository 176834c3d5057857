use Rattle.std.proofs.Common.{◌++◌, arith}
use Rattle.rb_script_report.specs.WholeLines.{with_ends}
use Rattle.rb_script_report.proofs.WholeLaws.{ends_all, ends_more}
use Rattle.rb_script_report.proofs.splice.push_lines.Goals as goal

pub loop-i-preserved : goal.loop-i-preserved
loop-i-preserved c =
    ends_more c.loop-i.made.items c.push_line.new.made.items c.args.end.now c.args.lines.now c.loop-i.i c.line.result.now (c.args.made.now.items ++ with_ends c.args.end.now c.args.lines.now) c.line.ensures c.in_ok-push_line.ensures c.loop-i.invariant

pub returns : goal.returns
returns c =
    ends_all c.loop-i.made.items c.args.end.now c.args.lines.now c.loop-i.i (c.args.made.now.items ++ with_ends c.args.end.now c.args.lines.now) (omega (arith, c.loop-i-test.false, c.len-i-end.ensures)) c.loop-i.invariant
