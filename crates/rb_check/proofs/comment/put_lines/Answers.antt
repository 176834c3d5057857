use Rattle.std.proofs.Common.{arith}
use Rattle.rb_text.proofs.SentLaws.{sent_all}
use Rattle.rb_report.proofs.PutLaws.{next_sent, next_exit}
use Rattle.rb_check.proofs.CommentLaws.{ends-step, ends-done}
use Rattle.rb_check.proofs.comment.put_lines.Goals as goal

pub returns-in_err-put_with_end-clause-wrote : goal.returns-in_err-put_with_end-clause-wrote
returns-in_err-put_with_end-clause-wrote g c =
    next_exit _ _ _ _ c.from_residual.ensures.0 c.loop-i.invariant.sent c.in_err-put_with_end.ensures.wrote
    (ends-step c.args.text.now c.loop-i.i c.args.to c.line.result.now (omega (arith, c.loop-i-test.true)) c.line.ensures)

pub loop-i-preserved : goal.loop-i-preserved
loop-i-preserved g c = record {
  sent = next_sent _ _ _ c.loop-i.invariant.sent c.in_ok-put_with_end.ensures.wrote
      (ends-step c.args.text.now c.loop-i.i c.args.to c.line.result.now (omega (arith, c.loop-i-test.true)) c.line.ensures);
  takes = λ t. (c.in_ok-put_with_end.ensures.all (c.loop-i.invariant.takes t)).1;
}

pub returns-clause-wrote : goal.returns-clause-wrote
returns-clause-wrote g c =
    sent_all (ends-done c.args.text.now c.loop-i.i c.args.to (omega (arith, c.loop-i-test.false)) c.requires.within) c.loop-i.invariant.sent
