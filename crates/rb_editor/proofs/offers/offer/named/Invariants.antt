-- The names so far, and those that are left.
use Rattle.std.proofs.Common.{◌≡◌, ◌++◌, drop, map}
use Rattle.rb_editor.specs.Offers.{named}
use Rattle.rb_editor.proofs.offers.offer.named.Given as goal

abbrev pub invariant-loop-page : goal.invariant-loop-page
invariant-loop-page l = l.list.items ++ named l.prefix (map (λ p. (p.0.now, p.1.now, p.2.now)) (drop l.page-index l.pages)) ≡ named l.prefix (map (λ p. (p.0.now, p.1.now, p.2.now)) l.pages)
