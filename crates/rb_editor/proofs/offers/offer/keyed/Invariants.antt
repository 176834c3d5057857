-- The keys so far, and those that are left.
use Rattle.std.proofs.Common.{◌≡◌, ◌++◌, drop, map}
use Rattle.rb_editor.specs.Offers.{keyed}
use Rattle.rb_editor.proofs.offers.offer.keyed.Given as goal

abbrev pub invariant-loop-row : goal.invariant-loop-row
invariant-loop-row l =
    l.list.items ++ keyed l.name l.prefix (map (λ k. (k.0.now, k.1.now)) (drop l.row-index l.keys)) ≡ keyed l.name l.prefix (map (λ k. (k.0.now, k.1.now)) l.keys)
