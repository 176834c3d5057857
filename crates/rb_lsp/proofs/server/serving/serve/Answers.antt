use Rattle.std.proofs.Common.{sym, subst}
use Rattle.rb_text.proofs.AskedLaws.{fails_none, fails_then}
use Rattle.rb_lsp.specs.Reading.{left_of, waiting}
use Rattle.rb_lsp.specs.Replies.{PlainServer}
use Rattle.rb_lsp.proofs.TalkLaws.{Far, far_broken, far_more, far_none, far_over, far_stopped}
use Rattle.rb_lsp.proofs.server.serving.serve.Goals as goal

pub loop-init : goal.loop-init
loop-init g c =
    let first = g.S.Source.left c.args.source.now in
    let held = g.W.Sink.held c.args.sink.now in
    record {
      far =
          subst (λ (s : PlainServer). Far g.V.Service.meaning first s (left_of c.new-reader.result first) held held) (sym c.new-server.ensures)
          (far_none g.V.Service.meaning first (left_of c.new-reader.result first) held (c.new-reader.ensures first));
      unfailed = fails_none (g.S.Source.asked c.args.source.now);
    }

pub loop-preserved : goal.loop-preserved
loop-preserved g c =
    let first = g.S.Source.left c.args.source.now in
    let left = left_of c.loop.reader (g.S.Source.left c.loop.source) in
    let after = left_of c.turn.new.reader (g.S.Source.left c.turn.new.source) in
    let old = g.W.Sink.held c.args.sink.now in
    let mid = g.W.Sink.held c.loop.sink in
    let new = g.W.Sink.held c.turn.new.sink in
    record {
      far = far_more g.V.Service.meaning (waiting c.turn.new.reader) first left after old mid new c.loop.server c.turn.new.server c.loop.invariant.far (rw c.in-Ok-None.field-0-is at c.in-Ok-None.ensures.ok);
      unfailed = fails_then _ _ _ 0 0 c.loop.invariant.unfailed (c.in-Ok-None.ensures.unfailed (λ e. cc));
    }

pub returns-in-Ok-Some-clause-ok : goal.returns-in-Ok-Some-clause-ok
returns-in-Ok-Some-clause-ok g c =
    let first = g.S.Source.left c.args.source.now in
    let left = left_of c.loop.reader (g.S.Source.left c.loop.source) in
    let after = left_of c.turn.new.reader (g.S.Source.left c.turn.new.source) in
    let old = g.W.Sink.held c.args.sink.now in
    let mid = g.W.Sink.held c.loop.sink in
    let new = g.W.Sink.held c.turn.new.sink in
    far_over g.V.Service.meaning (waiting c.turn.new.reader) first left after old mid new c.loop.server c.in-Ok-Some.status c.loop.invariant.far (rw c.in-Ok-Some.field-0-is at c.in-Ok-Some.ensures.ok)

pub returns-in-Err-clause-failed : goal.returns-in-Err-clause-failed
returns-in-Err-clause-failed g c =
    let first = g.S.Source.left c.args.source.now in
    let left = left_of c.loop.reader (g.S.Source.left c.loop.source) in
    let old = g.W.Sink.held c.args.sink.now in
    let mid = g.W.Sink.held c.loop.sink in
    let new = g.W.Sink.held c.turn.new.sink in
    far_broken g.V.Service.meaning first left old mid new c.loop.server c.loop.invariant.far c.in-Err.ensures.failed

pub returns-clause-failed : goal.returns-clause-failed
returns-clause-failed g c =
    let left = left_of c.loop.reader (g.S.Source.left c.loop.source) in
    far_stopped g.V.Service.meaning (g.S.Source.left c.args.source.now) left (g.W.Sink.held c.args.sink.now) (g.W.Sink.held c.loop.sink) c.loop.server c.loop.invariant.far
