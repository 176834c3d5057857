use Rattle.std.proofs.Common.{ℕ, List, Some, ◌∙◌, subst, sym}
use Rattle.serde_json.specs.View.{view}
use Rattle.rb_lsp.specs.Said.{said}
use Rattle.rb_lsp.specs.Reading.{waiting}
use Rattle.rb_lsp.specs.Serves.{Heeds}
use Rattle.rb_lsp.proofs.TalkLaws.{none_err, starts_err, tells_by}
use Rattle.rb_lsp.proofs.server.serving.respond_to.Goals as goal

pub returns-in_err-heard-clause-failed : goal.returns-in_err-heard-clause-failed
returns-in_err-heard-clause-failed g c = none_err c.from_residual.result g.V.Service.meaning c.args.server.now (Some (said (view c.args.message.now))) (waiting c.args.reader.now) (g.W.Sink.held c.args.sink.now)

pub returns-in_err-put-clause-failed : goal.returns-in_err-put-clause-failed
returns-in_err-put-clause-failed g c =
    starts_err c.from_residual-in_err-put.result g.V.Service.meaning c.in_ok-heard.heard.reach c.args.server.now (Some (said (view c.args.message.now))) (waiting c.args.reader.now)
    (g.W.Sink.held c.args.sink.now) (g.W.Sink.held c.put.new.self) c.as_slice.result.now c.in_ok-heard.ensures.only (c.as_slice.ensures.value ∙ c.in_ok-heard.ensures.out) c.in_err-put.ensures.wrote

pub returns-clause-tells : goal.returns-clause-tells
returns-clause-tells g c =
    tells_by g.V.Service.meaning c.in_ok-heard.heard.reach c.args.server.now (Some (said (view c.args.message.now))) (waiting c.args.reader.now)
    (g.W.Sink.held c.args.sink.now) (g.W.Sink.held c.put.new.self) c.as_slice.result.now c.in_ok-heard.ensures.only
    (subst (λ (l : List ℕ). Heeds g.V.Service.meaning c.args.server.now (Some (said (view c.args.message.now))) (waiting c.args.reader.now) c.in_ok-heard.heard.reach l) (sym c.as_slice.ensures.value) c.in_ok-heard.ensures.cancelled)
    (c.as_slice.ensures.value ∙ c.in_ok-heard.ensures.out) c.in_ok-put.ensures.wrote
