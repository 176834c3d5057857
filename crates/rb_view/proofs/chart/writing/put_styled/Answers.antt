use Rattle.std.proofs.Common.{List, ℕ, subst}
use Rattle.rb_script.specs.Writes.{Writes}
use Rattle.rb_view.proofs.PathLaws.{layered}
use Rattle.rb_view.proofs.chart.writing.put_styled.Goals as goal

pub returns-clause-wrote : goal.returns-clause-wrote
returns-clause-wrote g c =
    let k = c.chart.inside in
    subst (λ (t : List ℕ). Writes c.put_pieces.result (g.S.Sink.held c.args.sink.now) (g.S.Sink.held c.put_pieces.new.sink) t)
    (layered c.args.style.now c.args.chart.now k.width k.height k.title.items k.told.items k.words.items _ _ _ k.under.items k.texts.items _ _ k.arrows.items _ c.chart.view_is
    c.as_slice-title.ensures.value c.as_slice-told.ensures.value c.as_slice-words.ensures.value c.as_slice.ensures.value c.as_slice-2.ensures.value c.as_slice-3.ensures.value)
    c.put_pieces.ensures.wrote
