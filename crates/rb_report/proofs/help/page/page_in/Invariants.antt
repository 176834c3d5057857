-- The page stands among what is left.
use Rattle.std.proofs.Common.{◌≡◌, drop, map}
use Rattle.rb_report.specs.Manual.{page_in}
use Rattle.rb_report.proofs.help.page.page_in.Given as goal

abbrev pub invariant-loop-page : goal.invariant-loop-page
invariant-loop-page l = page_in (map (λ p. (p.0.now, p.1.now, p.2.now)) l.pages) l.name ≡ page_in (map (λ p. (p.0.now, p.1.now, p.2.now)) (drop l.page-index l.pages)) l.name
