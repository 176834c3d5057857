use Rattle.std.proofs.Common.{inr}
use Rattle.rb_bench.specs.declared.limits.TheConstants.{MAX_READS}
use Rattle.rb_text.proofs.AskedLaws.{asked_for}
use Rattle.rb_text.specs.Left.{left_of}
use Rattle.rb_bench.proofs.ServeLaws.{serves}
use Rattle.rb_bench.proofs.StopLaws.{serves_came}
use Rattle.rb_bench.proofs.session.serve.Goals as goal

pub returns-clause-talk : goal.returns-clause-talk
returns-clause-talk g c =
    serves (left_of c.in-Ok.input (g.S.Source.left c.args.source.now)) _ c.converse.result c.args.script.now c.args.every c.in_ok-session.session _ _ (c.in-Ok.ensures.left (g.S.Source.left c.args.source.now)) c.in_ok-session.ensures.started c.converse.ensures.out

pub returns-clause-asked : goal.returns-clause-asked
returns-clause-asked g c = inr (asked_for _ _ _ _ MAX_READS c.in-Ok.ensures.wanted c.in-Ok.ensures.calls c.converse.ensures.stops)

pub returns-clause-whole : goal.returns-clause-whole
returns-clause-whole g c = λ takes is.
    serves_came c.converse.result _ (left_of c.in-Ok.input (g.S.Source.left c.args.source.now)) _ _ c.args.script.now c.args.every c.in_ok-session.session _ _
    (c.in-Ok.ensures.left (g.S.Source.left c.args.source.now)) c.in_ok-session.ensures.started (c.converse.ensures.whole takes) is
