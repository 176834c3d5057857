-- What went out so far, and no call failed.
use Rattle.rb_text.specs.Asked.{Fails}
use Rattle.rb_lsp.specs.Reading.{left_of}
use Rattle.rb_lsp.proofs.TalkLaws.{Far}
use Rattle.rb_lsp.proofs.server.serving.serve.Given as goal

abbrev pub invariant-loop : goal.invariant-loop
invariant-loop g l = record {
  far : Far g.V.Service.meaning (g.S.Source.left l.fn.source) l.server (left_of l.reader (g.S.Source.left l.source)) (g.W.Sink.held l.fn.sink) (g.W.Sink.held l.sink);
  unfailed : Fails (g.S.Source.asked l.fn.source) (g.S.Source.asked l.source) 0;
}
