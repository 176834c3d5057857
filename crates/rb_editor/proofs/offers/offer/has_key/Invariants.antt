-- None so far is the key.
use Rattle.std.proofs.Common.{◌≡◌, drop, map}
use Rattle.rb_editor.specs.Offers.{has_key}
use Rattle.rb_editor.proofs.offers.offer.has_key.Given as goal

abbrev pub invariant-loop-row : goal.invariant-loop-row
invariant-loop-row l = has_key l.name l.key (map (λ k. (k.0.now, k.1.now)) l.keys) ≡ has_key l.name l.key (map (λ k. (k.0.now, k.1.now)) (drop l.row-index l.keys))
