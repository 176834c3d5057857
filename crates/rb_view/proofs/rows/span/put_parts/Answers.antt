use Rattle.std.proofs.Common.{◌≡◌, ◌∙◌, ℕ, ◌+◌, ◌<◌, List, ◌∷◌, ◌++◌, length, drop, get_or, ap, sym, arith}
use Rattle.std.proofs.lemmas.List.{drop_more, drop_all}
use Rattle.std.proofs.lemmas.List.Concat.{flat_map-append}
use Rattle.std.specs.List.{flat_map}
use Rattle.rb_text.specs.Json.{in_page}
use Rattle.rb_text.proofs.SentLaws.{sent_piece, sent_along, sent_all, piece_exit}
use Rattle.rb_view.proofs.rows.span.put_parts.Goals as goal

-- the part at a place, and those after it
parted : {A : Type 0} (text : A → List ℕ) (xs : List A) (i : ℕ) (x : A) → i < length xs → x ≡ get_or xs i x
    → flat_map in_page (flat_map text (drop i xs)) ≡ flat_map in_page (text x) ++ flat_map in_page (flat_map text (drop (i + 1) xs))
parted {A} text xs i x within is =
    ap (λ (l : List A). flat_map in_page (flat_map text l)) (drop_more xs i x within ∙ ap (λ (y : A). y ∷ drop (i + 1) xs) (sym is))
    ∙ flat_map-append in_page (text x) (flat_map text (drop (i + 1) xs))

pub returns-in_err-put-clause-wrote : goal.returns-in_err-put-clause-wrote
returns-in_err-put-clause-wrote g c =
    let next = parted g.P.TextPart.text c.args.parts.now c.loop-part.part-index c.part-item.result c.loop-part-test.true c.part-item.is in
    piece_exit c.from_residual.result (g.S.Sink.held c.put.new.sink) _ _ c.from_residual.ensures.0 (sent_along next c.loop-part.invariant.sent) c.in_err-put.ensures.wrote

pub loop-part-preserved : goal.loop-part-preserved
loop-part-preserved g c =
    let next = parted g.P.TextPart.text c.args.parts.now c.loop-part.part-index c.part-item.result c.loop-part-test.true c.part-item.is in
    record {
      sent = sent_piece (g.S.Sink.held c.put.new.sink) _ _ (sent_along next c.loop-part.invariant.sent) c.in_ok-put.ensures.wrote;
      takes = λ t. (c.in_ok-put.ensures.all (c.loop-part.invariant.takes t)).1;
    }

pub returns-clause-wrote : goal.returns-clause-wrote
returns-clause-wrote g c = sent_all (ap (λ (l : List _). flat_map in_page (flat_map g.P.TextPart.text l)) (drop_all c.loop-part.part-index c.args.parts.now (omega arith))) c.loop-part.invariant.sent
