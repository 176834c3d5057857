use Rattle.std.proofs.Common.{◌∙◌, sym}
use Rattle.rb_report.specs.Manual.{Key}
use Rattle.rb_editor.specs.Offers.{is_key, key_offer, keyed}
use Rattle.rb_editor.proofs.OfferLaws.{documented, none_left, one_seen}
use Rattle.rb_editor.proofs.offers.offer.keyed.Goals as goal

pub loop-row-preserved : goal.loop-row-preserved
unfolding keyed
loop-row-preserved c =
    one_seen (λ k. (k.0.now, k.1.now)) (λ (k : Key). is_key c.args.name.now c.args.prefix.now k.0 k.1) (λ (k : Key). key_offer k.1) c.args.keys.now c.loop-row.row-index _ c.is_key.result c.loop-row.list.items
    c.keep.new.list.items c.loop-row-test.true c.is_key.ensures (documented _ _ _ _ _ _ _ c.option_line.ensures c.in_ok-keep.ensures)
    ∙ c.loop-row.invariant

pub returns : goal.returns
unfolding keyed
returns c =
    sym (none_left (λ k. (k.0.now, k.1.now)) (λ (k : Key). is_key c.args.name.now c.args.prefix.now k.0 k.1) (λ (k : Key). key_offer k.1) c.args.keys.now c.loop-row.row-index c.loop-row.list.items c.loop-row-test.false)
    ∙ c.loop-row.invariant
