use Rattle.std.proofs.Common.{None, Some, refl}
use Rattle.serde_json.specs.View.{view}
use Rattle.rb_lsp.specs.Said.{said}
use Rattle.rb_lsp.specs.Reading.{waiting}
use Rattle.rb_lsp.proofs.TalkLaws.{fails_by, responds_by, says_nothing}
use Rattle.rb_lsp.proofs.server.serving.respond.Goals as goal

pub returns-in-Ok-clause-ok : goal.returns-in-Ok-clause-ok
returns-in-Ok-clause-ok g c =
    let old = g.W.Sink.held c.args.sink.now in
    let new = g.W.Sink.held c.respond_to.new.sink in
    let d = view c.in-Ok.message in
    responds_by g.V.Service.meaning c.args.server.now c.respond_to.new.server c.args.body.now (waiting c.args.reader.now) (Some (said d)) old new c.respond_to.result (d, c.in-Ok.ensures.ok.0, c.in-Ok.ensures.ok.1, refl) c.respond_to.ensures.turned c.respond_to.ensures.tells

pub returns-in-Ok-clause-failed : goal.returns-in-Ok-clause-failed
returns-in-Ok-clause-failed g c =
    let old = g.W.Sink.held c.args.sink.now in
    let new = g.W.Sink.held c.respond_to.new.sink in
    let d = view c.in-Ok.message in
    fails_by g.V.Service.meaning c.args.server.now c.args.body.now (waiting c.args.reader.now) (Some (said d)) old new c.respond_to.result (d, c.in-Ok.ensures.ok.0, c.in-Ok.ensures.ok.1, refl) c.respond_to.ensures.failed

pub returns-in-Err-NotJson-clause-ok : goal.returns-in-Err-NotJson-clause-ok
returns-in-Err-NotJson-clause-ok g c =
    let old = g.W.Sink.held c.args.sink.now in
    let new = g.W.Sink.held c.refuse.new.sink in
    responds_by g.V.Service.meaning c.args.server.now c.refuse.new.server c.args.body.now (waiting c.args.reader.now) None old new c.refuse.result (λ utf8. (rw c.in-Err-NotJson.field-0-is at c.in-Err-NotJson.ensures.err) refl utf8) c.refuse.ensures.turned c.refuse.ensures.tells

pub returns-in-Err-NotJson-clause-failed : goal.returns-in-Err-NotJson-clause-failed
returns-in-Err-NotJson-clause-failed g c =
    let old = g.W.Sink.held c.args.sink.now in
    let new = g.W.Sink.held c.refuse.new.sink in
    fails_by g.V.Service.meaning c.args.server.now c.args.body.now (waiting c.args.reader.now) None old new c.refuse.result (λ utf8. (rw c.in-Err-NotJson.field-0-is at c.in-Err-NotJson.ensures.err) refl utf8) c.refuse.ensures.failed

pub returns-in-Err-OutOfMemory-clause-failed : goal.returns-in-Err-OutOfMemory-clause-failed
returns-in-Err-OutOfMemory-clause-failed g c = says_nothing g.V.Service.meaning c.args.server.now c.args.body.now (waiting c.args.reader.now) (g.W.Sink.held c.args.sink.now)
