use Rattle.std.proofs.Common.{◌∙◌, ℕ, ◌+◌, List, ◌++◌, drop, ap, sym, arith}
use Rattle.std.specs.Prelude.{codes}
use Rattle.rb_editor.specs.Completion.{item_text}
use Rattle.rb_editor.specs.Texts.{listed}
use Rattle.rb_editor.proofs.ListLaws.{no_more, one_more}
use Rattle.rb_editor.proofs.offers.completion.add_all.Goals as goal

pub loop-offer-preserved : goal.loop-offer-preserved
loop-offer-preserved c =
    let text = item_text c.args.place in
    let list = c.args.list.now in
    let i = c.loop-offer.offer-index in
    let offer = c.offer-item.result in
    ap (λ (l : List ℕ). l ++ listed text (codes ",") (drop (i + 1) list)) (c.in_ok-add_item.ensures ∙ ap (λ (l : List ℕ). l ++ text offer) c.in_ok-extend_from_slice.ensures.items)
    ∙ one_more text c.loop-offer.lead.now c.loop-offer.out.items list i offer c.loop-offer-test.true c.offer-item.is
    ∙ c.loop-offer.invariant

pub returns : goal.returns
returns c =
    let text = item_text c.args.place in
    let none = no_more text c.loop-offer.lead.now c.args.list.now c.loop-offer.offer-index (omega (arith, c.loop-offer-test.false)) in
    c.in_ok-extend_from_slice-2.ensures.items ∙ ap (λ (l : List ℕ). c.loop-offer.out.items ++ l) (sym none) ∙ c.loop-offer.invariant
