use Rattle.std.proofs.Common.{◌+◌, drop, get_or, ap, arith}
use Rattle.std.specs.List.{flat_map}
use Rattle.std.proofs.lemmas.List.{drop_more, drop_all}
use Rattle.rb_text.proofs.SentLaws.{sent_piece, sent_along, sent_all, piece_exit}
use Rattle.rb_text.proofs.escape.put_escaped.Goals as goal

pub returns-in_err-put-clause-wrote : goal.returns-in_err-put-clause-wrote
returns-in_err-put-clause-wrote g c =
    let i = c.loop-b.b-index in
    let byte = g.E.Escape.text c.args.escape.now in
    let next = ap (λ xs. flat_map byte xs) (drop_more c.args.bytes.now i _ c.loop-b-test.true) in
    piece_exit c.from_residual.result (g.S.Sink.held c.put.new.sink) (byte (get_or c.args.bytes.now i _)) (flat_map byte (drop (i + 1) c.args.bytes.now))
    c.from_residual.ensures.0 (sent_along next c.loop-b.invariant.sent) c.in_err-put.ensures.wrote

pub loop-b-preserved : goal.loop-b-preserved
loop-b-preserved g c =
    let i = c.loop-b.b-index in
    let byte = g.E.Escape.text c.args.escape.now in
    let next = ap (λ xs. flat_map byte xs) (drop_more c.args.bytes.now i _ c.loop-b-test.true) in
    record {
      sent = sent_piece (g.S.Sink.held c.put.new.sink) (byte (get_or c.args.bytes.now i _)) (flat_map byte (drop (i + 1) c.args.bytes.now))
          (sent_along next c.loop-b.invariant.sent) c.in_ok-put.ensures.wrote;
      takes = λ t. (c.in_ok-put.ensures.all (c.loop-b.invariant.takes t)).1;
    }

pub returns-clause-wrote : goal.returns-clause-wrote
returns-clause-wrote g c =
    let byte = g.E.Escape.text c.args.escape.now in
    sent_all (ap (λ xs. flat_map byte xs) (drop_all c.loop-b.b-index c.args.bytes.now (omega arith))) c.loop-b.invariant.sent
