-- The line stands among what is left.
use Rattle.std.proofs.Common.{◌≡◌, drop, map}
use Rattle.rb_editor.specs.Offers.{line_in}
use Rattle.rb_editor.proofs.offers.offer.line_in.Given as goal

abbrev pub invariant-loop-page : goal.invariant-loop-page
invariant-loop-page l = line_in l.name (map (λ p. (p.0.now, p.1.now, p.2.now)) l.pages) ≡ line_in l.name (map (λ p. (p.0.now, p.1.now, p.2.now)) (drop l.page-index l.pages))
