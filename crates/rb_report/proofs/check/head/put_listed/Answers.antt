use Rattle.std.proofs.Common.{ap, arith}
use Rattle.std.proofs.lemmas.List.{drop_all}
use Rattle.rb_script.specs.Directive.{plain_argument}
use Rattle.rb_script.specs.Tokens.{plain}
use Rattle.rb_text.proofs.SentLaws.{sent_all}
use Rattle.rb_report.specs.Heads.{listed}
use Rattle.rb_report.proofs.HeadLaws.{listed-step}
use Rattle.rb_report.proofs.PutLaws.{next_sent, next_exit}
use Rattle.rb_report.proofs.check.head.put_listed.Goals as goal

pub returns-in_err-put_pieces-clause-wrote : goal.returns-in_err-put_pieces-clause-wrote
returns-in_err-put_pieces-clause-wrote g c =
    let vs = (plain_argument (plain c.args.directive.now) c.args.argument).values in
    next_exit _ _ _ _ c.from_residual.ensures.0 c.loop-i.invariant.sent c.in_err-put_pieces.ensures.wrote
    (listed-step vs c.loop-i.i c.before_value.result.now c.value.result.now (omega (arith, c.loop-i-test.true, c.values-i-end.ensures)) c.before_value.ensures c.value.ensures.plain)

pub loop-i-preserved : goal.loop-i-preserved
loop-i-preserved g c =
    let vs = (plain_argument (plain c.args.directive.now) c.args.argument).values in
    record {
      sent = next_sent _ _ _ c.loop-i.invariant.sent c.in_ok-put_pieces.ensures.wrote
          (listed-step vs c.loop-i.i c.before_value.result.now c.value.result.now (omega (arith, c.loop-i-test.true, c.values-i-end.ensures)) c.before_value.ensures c.value.ensures.plain);
      takes = λ t. (c.in_ok-put_pieces.ensures.all (c.loop-i.invariant.takes t)).1;
    }

pub returns-clause-wrote : goal.returns-clause-wrote
returns-clause-wrote g c =
    let vs = (plain_argument (plain c.args.directive.now) c.args.argument).values in
    sent_all (ap (listed c.loop-i.i) (drop_all c.loop-i.i vs (omega (arith, c.loop-i-test.false, c.values-i-end.ensures)))) c.loop-i.invariant.sent
