use Rattle.std.proofs.Common.{None, ◌∙◌}
use Rattle.rb_lsp.specs.declared.server.reach.Reach.TheVariants.{Whole}
use Rattle.rb_lsp.specs.Reading.{waiting}
use Rattle.rb_lsp.proofs.CancelLaws.{may_whole, none_heeds}
use Rattle.rb_lsp.proofs.TalkLaws.{none_err, starts_err, tells_by}
use Rattle.rb_lsp.proofs.server.serving.refuse.Goals as goal

pub returns-in_err-out-clause-failed : goal.returns-in_err-out-clause-failed
returns-in_err-out-clause-failed g c = none_err c.from_residual.result g.V.Service.meaning c.args.server.now None (waiting c.args.reader.now) (g.W.Sink.held c.args.sink.now)

pub returns-in_err-put-clause-failed : goal.returns-in_err-put-clause-failed
returns-in_err-put-clause-failed g c =
    starts_err c.from_residual-in_err-put.result g.V.Service.meaning Whole c.args.server.now None (waiting c.args.reader.now)
    (g.W.Sink.held c.args.sink.now) (g.W.Sink.held c.put.new.self) c.as_slice.result.now (may_whole g.V.Service.meaning c.args.server.now None (waiting c.args.reader.now)) (c.as_slice.ensures.value ∙ c.in_ok-out.ensures) c.in_err-put.ensures.wrote

pub returns-clause-tells : goal.returns-clause-tells
returns-clause-tells g c =
    tells_by g.V.Service.meaning Whole c.args.server.now None (waiting c.args.reader.now)
    (g.W.Sink.held c.args.sink.now) (g.W.Sink.held c.put.new.self) c.as_slice.result.now (may_whole g.V.Service.meaning c.args.server.now None (waiting c.args.reader.now))
    (none_heeds g.V.Service.meaning c.args.server.now (waiting c.args.reader.now) Whole c.as_slice.result.now) (c.as_slice.ensures.value ∙ c.in_ok-out.ensures) c.in_ok-put.ensures.wrote
