use Rattle.rb_lsp.proofs.ReadingLaws.{never_known, end_known}
use Rattle.rb_lsp.proofs.rpc.message_reader.MessageReader.next.Goals as goal

pub returns-in-Bad-clause-given : goal.returns-in-Bad-clause-given
returns-in-Bad-clause-given g c = never_known _ _ c.reading.self.has_ended c.reading.self.held.items c.reading.invariant.left (rw c.as_slice.ensures.value at c.in-Bad.ensures)

pub returns-then-self-clause-given : goal.returns-then-self-clause-given
returns-then-self-clause-given g c =
    end_known _ (g.S.Source.left c.reading.source) _ c.reading.self.has_ended c.reading.self.held.items c.reading.self.body.items c.end.result c.if-self.true
    c.reading.invariant.left (rw c.as_slice.ensures.value at c.in-Partial.ensures.0) c.end.ensures
