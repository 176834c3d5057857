use Rattle.std.proofs.Common.{◌≡◌, ◌∙◌, ℕ, ◌+◌, ◌<◌, List, ◌∷◌, length, drop, get_or, ap, sym, arith}
use Rattle.std.proofs.lemmas.List.{drop_more, drop_all}
use Rattle.std.specs.List.{flat_map}
use Rattle.rb_text.proofs.SentLaws.{sent_piece, sent_along, sent_all, piece_exit}
use Rattle.rb_view.specs.MessageRows.{field_text}
use Rattle.rb_view.proofs.rows.message.put_fields.Goals as goal

-- the field at a place, and those after it
drop_next : {A : Type 0} (xs : List A) (i : ℕ) (x : A) → i < length xs → x ≡ get_or xs i x → drop i xs ≡ x ∷ drop (i + 1) xs
drop_next xs i x within is = drop_more xs i x within ∙ ap (λ (y : _). y ∷ drop (i + 1) xs) (sym is)

pub returns-in_err-put_field-clause-wrote : goal.returns-in_err-put_field-clause-wrote
returns-in_err-put_field-clause-wrote g c =
    let i = c.loop-field.field-index in
    let next = ap (flat_map field_text) (drop_next c.args.fields.now i c.field-item.result c.loop-field-test.true c.field-item.is) in
    piece_exit c.from_residual.result (g.S.Sink.held c.put_field.new.sink) (field_text c.field-item.result) (flat_map field_text (drop (i + 1) c.args.fields.now))
    c.from_residual.ensures.0 (sent_along next c.loop-field.invariant.sent) c.in_err-put_field.ensures.wrote

pub loop-field-preserved : goal.loop-field-preserved
loop-field-preserved g c =
    let i = c.loop-field.field-index in
    let next = ap (flat_map field_text) (drop_next c.args.fields.now i c.field-item.result c.loop-field-test.true c.field-item.is) in
    record {
      sent = sent_piece (g.S.Sink.held c.put_field.new.sink) (field_text c.field-item.result) (flat_map field_text (drop (i + 1) c.args.fields.now))
          (sent_along next c.loop-field.invariant.sent) c.in_ok-put_field.ensures.wrote;
      takes = λ t. (c.in_ok-put_field.ensures.all (c.loop-field.invariant.takes t)).1;
    }

pub returns-clause-wrote : goal.returns-clause-wrote
returns-clause-wrote g c = sent_all (ap (flat_map field_text) (drop_all c.loop-field.field-index c.args.fields.now (omega arith))) c.loop-field.invariant.sent
