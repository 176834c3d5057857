-- Nothing is lost, and no call failed.
use Rattle.std.specs.Io.KnownBytes.{Keeps}
use Rattle.rb_text.specs.Asked.{Fails}
use Rattle.rb_lsp.specs.Reading.{left_of}
use Rattle.rb_lsp.proofs.rpc.message_reader.MessageReader.next.Given as goal

abbrev pub invariant-reading : goal.invariant-reading
invariant-reading g l = record {
  left : Keeps (left_of l.initial.self (g.S.Source.left l.initial.source)) (left_of l.self (g.S.Source.left l.source));
  unfailed : Fails (g.S.Source.asked l.initial.source) (g.S.Source.asked l.source) 0;
  all : g.S.Source.gives_all l.initial.source → g.S.Source.gives_all l.source;
}

abbrev pub decreases-reading : goal.decreases-reading
decreases-reading g l = l.self.calls
