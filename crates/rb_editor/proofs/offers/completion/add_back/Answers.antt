use Rattle.std.proofs.Common.{◌≡◌, List, ℕ, [], ◌++◌, append-nil, subst}
use Rattle.std.specs.Prelude.{OnOk, codes}
use Rattle.std.specs.List.{flat_map}
use Rattle.rb_text.specs.Json.{escaped}
use Rattle.rb_editor.specs.Offers.{PlainOffer}
use Rattle.rb_editor.specs.Completion.{back_text, end_text, mark}
use Rattle.rb_editor.proofs.offers.completion.add_back.Goals as goal

pub returns : goal.returns
unfolding back_text
returns c =
    let o = c.offer.inside in
    let offer : PlainOffer = record { kind = o.kind; word = o.word.now; documentation = o.documentation.now } in
    let text : List ℕ → List ℕ → List ℕ = λ marked end. c.args.out.now.items ++ (codes ",\"newText\":\"" ++ (flat_map escaped offer.word ++ (marked ++ end))) in
    subst (λ (p : PlainOffer). OnOk c.add_pieces.result (c.add_pieces.new.text.items ≡ c.args.out.now.items ++ back_text c.args.has_block p)) c.offer.view_is
    (subst (λ (end : List ℕ). OnOk c.add_pieces.result (c.add_pieces.new.text.items ≡ text (mark offer.kind) end)) (append-nil (end_text c.args.has_block offer.kind))
    (subst (λ (end : List ℕ). OnOk c.add_pieces.result (c.add_pieces.new.text.items ≡ text (mark offer.kind) (end ++ []))) c.end_text.ensures
    (subst (λ (marked : List ℕ). OnOk c.add_pieces.result (c.add_pieces.new.text.items ≡ text marked (c.end_text.result.now ++ []))) c.mark.ensures c.add_pieces.ensures)))
