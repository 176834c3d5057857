use Rattle.std.proofs.lemmas.Result.{err_from_is_err_and}
use Rattle.rb_text.specs.Left.{left_of}
use Rattle.rb_bench.proofs.TurnLaws.{turned, turn_failed}
use Rattle.rb_bench.proofs.StopLaws.{turn_takes}
use Rattle.rb_bench.proofs.session.serve_one.Goals as goal

pub returns-clause-out : goal.returns-clause-out
returns-clause-out g c =
    turned _ _ c.in-Ok.heard c.args.session.now c.reply_to-reply.new.session _ c.reply_to-reply.result.1 _ _ c.in-Ok.ensures.heard c.reply_to-reply.ensures.serve_one c.in_ok-send.ensures.wrote

pub returns-in_err-send-clause-out : goal.returns-in_err-send-clause-out
returns-in_err-send-clause-out g c =
    let p = err_from_is_err_and c.from_residual.result c.from_residual.ensures.1 in
    let left = left_of c.hear.new.input (g.S.Source.left c.hear.new.source) in
    rw p.1 (turn_failed _ left c.in-Ok.heard c.args.session.now c.reply_to-reply.new.session _ c.reply_to-reply.result.1 p.0 _ _ c.in-Ok.ensures.heard c.reply_to-reply.ensures.serve_one c.in_err-send.ensures.wrote)

pub returns-clause-takes : goal.returns-clause-takes
returns-clause-takes g c = turn_takes c.reply_to-reply.result.1 c.in-Ok.heard _ _ _ _ c.reply_to-reply.ensures.going c.in-Ok.ensures.takes
