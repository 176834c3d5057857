use Rattle.std.proofs.Common.{◌∙◌, ℕ, List, ap, sym, subst}
use Rattle.rb_script.specs.Writes.{Writes}
use Rattle.rb_view.specs.declared.chart.css_class.DeliveryState.{DeliveryState}
use Rattle.rb_view.specs.Paths.{cross_at}
use Rattle.rb_view.specs.Shapes.{cross_text}
use Rattle.rb_view.proofs.chart.path.put_cross.Goals as goal

pub returns-clause-wrote : goal.returns-clause-wrote
returns-clause-wrote g c =
    subst (λ (t : List ℕ). Writes c.put_mark.result (g.S.Sink.held c.args.sink.now) (g.S.Sink.held c.put_mark.new.sink) t)
    (ap (λ (x : ℕ). cross_text x c.args.place.end) c.cross-x.ensures ∙ ap (λ (s : DeliveryState). cross_at s c.args.arrow c.args.place) (sym c.in-Lost.is))
    c.put_mark.ensures.wrote
