use Rattle.std.proofs.Common.{◌≡◌, ◌∙◌, ℕ, ◌+◌, ◌<◌, List, ◌∷◌, length, drop, get_or, ap, sym, arith}
use Rattle.std.proofs.lemmas.List.{drop_more, drop_all}
use Rattle.std.specs.List.{flat_map}
use Rattle.rb_text.proofs.SentLaws.{sent_piece, sent_along, sent_all, piece_exit}
use Rattle.rb_text.proofs.piece.put_pieces.Goals as goal

-- the piece at a place, and those after it
drop_next : {A : Type 0} (xs : List A) (i : ℕ) (x : A) → i < length xs → x ≡ get_or xs i x → drop i xs ≡ x ∷ drop (i + 1) xs
drop_next xs i x within is = drop_more xs i x within ∙ ap (λ (y : _). y ∷ drop (i + 1) xs) (sym is)

pub returns-in_err-put-clause-wrote : goal.returns-in_err-put-clause-wrote
returns-in_err-put-clause-wrote g c =
    let i = c.loop-piece.piece-index in
    let text = g.P.WrittenPiece.text in
    let next = ap (flat_map text) (drop_next c.args.pieces.now i c.piece-item.result c.loop-piece-test.true c.piece-item.is) in
    piece_exit c.from_residual.result (g.S.Sink.held c.put.new.sink) (text c.piece-item.result) (flat_map text (drop (i + 1) c.args.pieces.now))
    c.from_residual.ensures.0 (sent_along next c.loop-piece.invariant.sent) c.in_err-put.ensures.wrote

pub loop-piece-preserved : goal.loop-piece-preserved
loop-piece-preserved g c =
    let i = c.loop-piece.piece-index in
    let text = g.P.WrittenPiece.text in
    let next = ap (flat_map text) (drop_next c.args.pieces.now i c.piece-item.result c.loop-piece-test.true c.piece-item.is) in
    record {
      sent = sent_piece (g.S.Sink.held c.put.new.sink) (text c.piece-item.result) (flat_map text (drop (i + 1) c.args.pieces.now))
          (sent_along next c.loop-piece.invariant.sent) c.in_ok-put.ensures.wrote;
      takes = λ t. (c.in_ok-put.ensures.all (c.loop-piece.invariant.takes t)).1;
    }

pub returns-clause-wrote : goal.returns-clause-wrote
returns-clause-wrote g c = sent_all (ap (flat_map g.P.WrittenPiece.text) (drop_all c.loop-piece.piece-index c.args.pieces.now (omega arith))) c.loop-piece.invariant.sent
