use Rattle.std.proofs.Common.{◌∙◌, sym}
use Rattle.std.specs.Prelude.{option_map}
use Rattle.rb_editor.specs.Offers.{chosen, fits, value_offer}
use Rattle.rb_editor.proofs.OfferLaws.{documented, none_left, one_seen}
use Rattle.rb_editor.proofs.offers.offer.add_chosen.Goals as goal

pub loop-choice-preserved : goal.loop-choice-preserved
unfolding chosen
loop-choice-preserved c =
    one_seen (λ w. w.now) (fits c.args.wanted.now) (value_offer (option_map (λ l. l.now) c.args.line)) c.args.choices.now c.loop-choice.choice-index _ c.fits.result c.loop-choice.list.items c.keep.new.list.items c.loop-choice-test.true
    c.fits.ensures (documented _ _ _ _ _ _ _ c.line_or.ensures c.in_ok-keep.ensures)
    ∙ c.loop-choice.invariant

pub returns : goal.returns
unfolding chosen
returns c = sym (none_left (λ w. w.now) (fits c.args.wanted.now) (value_offer (option_map (λ l. l.now) c.args.line)) c.args.choices.now c.loop-choice.choice-index c.loop-choice.list.items c.loop-choice-test.false) ∙ c.loop-choice.invariant
