-- What was lost so far begins the line, and what was asked for it is counted.
use Rattle.std.proofs.Common.{◌≡◌, ℕ, List, ◌+◌, ◌≤◌, false, length}
use Rattle.std.specs.Io.KnownBytes.{Consumes}
use Rattle.rb_text.specs.Begun.{Holds}
use Rattle.rb_text.specs.Left.{left_of}
use Rattle.rb_text.specs.Asked.{GoesOn, HasCallsFor, size_of}
use Rattle.rb_text.proofs.line_reader.LineReader.next.Given as goal

abbrev pub invariant-loop-self : goal.invariant-loop-self
invariant-loop-self g l = record {
  begun : List ℕ;
  held : Holds begun l.self.line;
  lost : Consumes (left_of l.initial.self (g.S.Source.left l.initial.source)) (left_of l.self (g.S.Source.left l.source)) begun;
  goes : GoesOn l.initial.self l.self (g.S.Source.left l.initial.source) (g.S.Source.left l.source) (g.S.Source.asked l.initial.source) (g.S.Source.asked l.source);
  going : l.self.has_ended ≡ false → l.initial.self.has_ended ≡ false;
  size : size_of l.self + length begun ≤ size_of l.initial.self;
  all : g.S.Source.gives_all l.initial.source → HasCallsFor l.initial.self (g.S.Source.left l.initial.source) → g.S.Source.gives_all l.source;
}

abbrev pub decreases-loop-self : goal.decreases-loop-self
decreases-loop-self g l = l.self.calls
