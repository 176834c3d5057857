use Rattle.std.proofs.Common.{sym, subst}
use Rattle.rb_script.specs.Writes.{Writes}
use Rattle.rb_view.specs.declared.chart.writing.ChartLayer.{ChartLayer}
use Rattle.rb_view.specs.Charts.{layer_text}
use Rattle.rb_view.proofs.chart.writing.ChartLayerWrittenPiece.put.Goals as goal

pub returns-in-Front-clause-wrote : goal.returns-in-Front-clause-wrote
returns-in-Front-clause-wrote g c =
    subst (λ (l : ChartLayer). Writes c.put_front.result (g.S.Sink.held c.args.sink.now) (g.S.Sink.held c.put_front.new.sink) (layer_text l)) (sym c.in-Front.is) c.put_front.ensures.wrote
