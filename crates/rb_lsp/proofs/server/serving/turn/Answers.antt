use Rattle.rb_lsp.specs.Reading.{body_of, left_of, waiting}
use Rattle.rb_lsp.proofs.ReadingLaws.{left_follows}
use Rattle.rb_lsp.proofs.TalkLaws.{breaks_by, breaks_err, closed_by, cut_by, stray_by, turns_by}
use Rattle.rb_lsp.proofs.server.serving.turn.Goals as goal

pub returns-in_err-next-clause-failed : goal.returns-in_err-next-clause-failed
returns-in_err-next-clause-failed g c = breaks_err g.V.Service.meaning c.from_residual.result c.args.server.now (left_of c.args.reader.now (g.S.Source.left c.args.source.now)) (g.W.Sink.held c.args.sink.now)

pub returns-in-Message-clause-ok : goal.returns-in-Message-clause-ok
returns-in-Message-clause-ok g c =
    let before = left_of c.args.reader.now (g.S.Source.left c.args.source.now) in
    let left = left_of c.next.new.self (g.S.Source.left c.next.new.source) in
    let old = g.W.Sink.held c.args.sink.now in
    let new = g.W.Sink.held c.respond.new.sink in
    let loses = rw c.in-Message.is at c.in_ok-next.ensures.given in
    turns_by g.V.Service.meaning c.args.server.now c.respond.new.server c.respond.result before left old new (body_of c.next.new.self) c.body.result.now (waiting c.next.new.self) c.body.ensures (left_follows (g.S.Source.left c.next.new.source) c.next.new.self.has_ended (waiting c.next.new.self)) loses c.respond.ensures.ok

pub returns-in-Message-clause-failed : goal.returns-in-Message-clause-failed
returns-in-Message-clause-failed g c =
    let before = left_of c.args.reader.now (g.S.Source.left c.args.source.now) in
    let left = left_of c.next.new.self (g.S.Source.left c.next.new.source) in
    let old = g.W.Sink.held c.args.sink.now in
    let new = g.W.Sink.held c.respond.new.sink in
    let loses = rw c.in-Message.is at c.in_ok-next.ensures.given in
    breaks_by g.V.Service.meaning c.args.server.now c.respond.result before left old new (body_of c.next.new.self) c.body.result.now (waiting c.next.new.self) c.body.ensures (left_follows (g.S.Source.left c.next.new.source) c.next.new.self.has_ended (waiting c.next.new.self)) loses c.respond.ensures.failed

pub returns-in-End-clause-ok : goal.returns-in-End-clause-ok
returns-in-End-clause-ok g c =
    let before = left_of c.args.reader.now (g.S.Source.left c.args.source.now) in
    let left = left_of c.next.new.self (g.S.Source.left c.next.new.source) in
    closed_by g.V.Service.meaning c.args.server.now (waiting c.next.new.self) before left (g.W.Sink.held c.args.sink.now) (rw c.in-End.is at c.in_ok-next.ensures.given)

pub returns-in-CutOff-clause-ok : goal.returns-in-CutOff-clause-ok
returns-in-CutOff-clause-ok g c =
    let before = left_of c.args.reader.now (g.S.Source.left c.args.source.now) in
    let left = left_of c.next.new.self (g.S.Source.left c.next.new.source) in
    cut_by g.V.Service.meaning c.args.server.now (waiting c.next.new.self) before left (g.W.Sink.held c.args.sink.now) (rw c.in-CutOff.is at c.in_ok-next.ensures.given)

pub returns-in-Bad-clause-ok : goal.returns-in-Bad-clause-ok
returns-in-Bad-clause-ok g c =
    let before = left_of c.args.reader.now (g.S.Source.left c.args.source.now) in
    let left = left_of c.next.new.self (g.S.Source.left c.next.new.source) in
    stray_by g.V.Service.meaning c.args.server.now (waiting c.next.new.self) before left (g.W.Sink.held c.args.sink.now) (rw c.in-Bad.is at c.in_ok-next.ensures.given)
