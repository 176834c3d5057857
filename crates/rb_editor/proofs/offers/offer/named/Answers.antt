use Rattle.std.proofs.Common.{◌∙◌, sym}
use Rattle.rb_report.specs.Manual.{Page}
use Rattle.rb_editor.specs.Offers.{begins_with, name_offer, named}
use Rattle.rb_editor.proofs.OfferLaws.{none_left, one_seen}
use Rattle.rb_editor.proofs.offers.offer.named.Goals as goal

pub loop-page-preserved : goal.loop-page-preserved
unfolding named
loop-page-preserved c =
    one_seen (λ p. (p.0.now, p.1.now, p.2.now)) (λ (p : Page). begins_with c.args.prefix.now p.0) name_offer c.args.pages.now c.loop-page.page-index _ c.begins_with.result c.loop-page.list.items c.keep.new.list.items c.loop-page-test.true
    c.begins_with.ensures c.in_ok-keep.ensures
    ∙ c.loop-page.invariant

pub returns : goal.returns
unfolding named
returns c = sym (none_left (λ p. (p.0.now, p.1.now, p.2.now)) (λ (p : Page). begins_with c.args.prefix.now p.0) name_offer c.args.pages.now c.loop-page.page-index c.loop-page.list.items c.loop-page-test.false) ∙ c.loop-page.invariant
