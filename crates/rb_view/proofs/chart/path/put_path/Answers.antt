use Rattle.std.proofs.Common.{◌∙◌, ℕ, List, sym, subst}
use Rattle.rb_script.specs.Writes.{Writes}
use Rattle.rb_view.proofs.PathLaws.{looped, straight}
use Rattle.rb_view.proofs.chart.path.put_path.Goals as goal

pub returns-then-is_loop-clause-wrote : goal.returns-then-is_loop-clause-wrote
returns-then-is_loop-clause-wrote g c =
    subst (λ (t : List ℕ). Writes c.put_loop.result (g.S.Sink.held c.args.sink.now) (g.S.Sink.held c.put_loop.new.sink) t)
    (looped c.args.arrow c.args.place c.class-class.result c.loop_x-x.result c.loop_out-out.result c.class-class.ensures c.loop_x-x.ensures c.loop_out-out.ensures (sym c.is_loop.ensures ∙ c.if-is_loop.true))
    c.put_loop.ensures.wrote

pub returns-clause-wrote : goal.returns-clause-wrote
returns-clause-wrote g c =
    subst (λ (t : List ℕ). Writes c.put_arrow.result (g.S.Sink.held c.args.sink.now) (g.S.Sink.held c.put_arrow.new.sink) t)
    (straight c.args.arrow c.args.place c.class-class.result c.start-x.result c.bend-bend.result c.end-to_x.result c.class-class.ensures c.start-x.ensures c.bend-bend.ensures c.end-to_x.ensures (sym c.is_loop.ensures ∙ c.if-is_loop.false))
    c.put_arrow.ensures.wrote
