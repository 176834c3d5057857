use Rattle.std.proofs.Common.{ap, arith}
use Rattle.std.proofs.lemmas.List.{drop_more, drop_all}
use Rattle.rb_script.specs.Directive.{no_argument}
use Rattle.rb_script.specs.Tokens.{plain}
use Rattle.rb_text.proofs.SentLaws.{sent_all}
use Rattle.rb_report.specs.Heads.{arguments_text}
use Rattle.rb_report.proofs.PutLaws.{next_sent, next_exit}
use Rattle.rb_report.proofs.check.head.put_arguments.Goals as goal

pub returns-in_err-put_argument-clause-wrote : goal.returns-in_err-put_argument-clause-wrote
returns-in_err-put_argument-clause-wrote g c =
    next_exit _ _ _ _ c.from_residual.ensures.0 c.loop-i.invariant.sent c.in_err-put_argument.ensures.wrote
    (ap arguments_text (drop_more (plain c.args.directive.now).args c.loop-i.i no_argument (omega (arith, c.loop-i-test.true, c.args-i-end.ensures))))

pub loop-i-preserved : goal.loop-i-preserved
loop-i-preserved g c = record {
  sent = next_sent _ _ _ c.loop-i.invariant.sent c.in_ok-put_argument.ensures.wrote
      (ap arguments_text (drop_more (plain c.args.directive.now).args c.loop-i.i no_argument (omega (arith, c.loop-i-test.true, c.args-i-end.ensures))));
  takes = λ t. (c.in_ok-put_argument.ensures.all (c.loop-i.invariant.takes t)).1;
}

pub returns-clause-wrote : goal.returns-clause-wrote
returns-clause-wrote g c =
    let d = plain c.args.directive.now in
    sent_all (ap arguments_text (drop_all c.loop-i.i d.args (omega (arith, c.loop-i-test.false, c.args-i-end.ensures)))) c.loop-i.invariant.sent
