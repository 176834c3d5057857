use Rattle.std.proofs.Common.{◌+◌, List, drop, ap, arith}
use Rattle.std.proofs.lemmas.List.{drop_all}
use Rattle.rb_script.specs.Lines.{Line}
use Rattle.rb_view.specs.Kept.{joined}
use Rattle.rb_text.proofs.SentLaws.{drop-get, sent_piece, sent_along, sent_all, piece_exit}
use Rattle.rb_view.proofs.rows.kept.put_texts.Goals as goal

pub returns-in_err-put-clause-wrote : goal.returns-in_err-put-clause-wrote
returns-in_err-put-clause-wrote g c =
    let i = c.loop-i.i in
    let next = ap (λ (ts : List Line). joined ts) (drop-get c.args.texts.now i c.line.result.now c.line.ensures) in
    piece_exit c.from_residual.result (g.S.Sink.held c.put.new.self) c.line.result.now (joined (drop (i + 1) c.args.texts.now))
    c.from_residual.ensures.0 (sent_along next c.loop-i.invariant.sent) c.in_err-put.ensures.wrote

pub loop-i-preserved : goal.loop-i-preserved
loop-i-preserved g c =
    let i = c.loop-i.i in
    let next = ap (λ (ts : List Line). joined ts) (drop-get c.args.texts.now i c.line.result.now c.line.ensures) in
    record {
      sent = sent_piece (g.S.Sink.held c.put.new.self) c.line.result.now (joined (drop (i + 1) c.args.texts.now)) (sent_along next c.loop-i.invariant.sent) c.in_ok-put.ensures.wrote;
      takes = λ t. (c.in_ok-put.ensures.all (c.loop-i.invariant.takes t)).1;
    }

pub returns-clause-wrote : goal.returns-clause-wrote
returns-clause-wrote g c = sent_all (ap (λ (ts : List Line). joined ts) (drop_all c.loop-i.i c.args.texts.now (omega (arith, c.len-i-end.ensures)))) c.loop-i.invariant.sent
