use Rattle.std.proofs.Common.{◌+◌, List, drop, ap, arith}
use Rattle.std.proofs.lemmas.List.{drop_all}
use Rattle.rb_view.specs.Shapes.{shape_text, shapes_text}
use Rattle.rb_text.proofs.SentLaws.{drop-get, sent_piece, sent_along, sent_all, piece_exit}
use Rattle.rb_view.proofs.chart.shape.put_shapes.Goals as goal

pub returns-in_err-put_shape-clause-wrote : goal.returns-in_err-put_shape-clause-wrote
returns-in_err-put_shape-clause-wrote g c =
    let i = c.loop-i.i in
    let words = c.args.words.now in
    let next = ap (shapes_text words) (drop-get c.args.shapes.now i c.shape_at.result c.shape_at.ensures) in
    piece_exit c.from_residual.result (g.S.Sink.held c.put_shape.new.sink) (shape_text words c.shape_at.result) (shapes_text words (drop (i + 1) c.args.shapes.now))
    c.from_residual.ensures.0 (sent_along next c.loop-i.invariant.sent) c.in_err-put_shape.ensures.wrote

pub loop-i-preserved : goal.loop-i-preserved
loop-i-preserved g c =
    let i = c.loop-i.i in
    let words = c.args.words.now in
    let next = ap (shapes_text words) (drop-get c.args.shapes.now i c.shape_at.result c.shape_at.ensures) in
    record {
      sent = sent_piece (g.S.Sink.held c.put_shape.new.sink) (shape_text words c.shape_at.result) (shapes_text words (drop (i + 1) c.args.shapes.now)) (sent_along next c.loop-i.invariant.sent) c.in_ok-put_shape.ensures.wrote;
      takes = λ t. (c.in_ok-put_shape.ensures.all (c.loop-i.invariant.takes t)).1;
    }

pub returns-clause-wrote : goal.returns-clause-wrote
returns-clause-wrote g c = sent_all (ap (shapes_text c.args.words.now) (drop_all c.loop-i.i c.args.shapes.now (omega arith))) c.loop-i.invariant.sent
