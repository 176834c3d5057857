-- What is read was consumed, is no more than is wanted, and was asked for in no more calls than it has bytes.
use Rattle.std.proofs.Common.{ℕ, ◌≤◌, ◌-◌, vec_len}
use Rattle.std.specs.Io.KnownBytes.{Consumes}
use Rattle.rb_text.specs.Asked.{Asks, Fails}
use Rattle.rb_text.proofs.reading.read_up_to.Given as goal

abbrev pub invariant-loop-chunk : goal.invariant-loop-chunk
invariant-loop-chunk g l = record {
  within : vec_len l.bytes ≤ l.most;
  consumed : Consumes (g.S.Source.left l.initial.source) (g.S.Source.left l.source) l.bytes.items;
  calls : ℕ;
  asks : Asks (g.S.Source.asked l.initial.source) (g.S.Source.asked l.source) calls;
  few : calls ≤ vec_len l.bytes;
  unfailed : Fails (g.S.Source.asked l.initial.source) (g.S.Source.asked l.source) 0;
  all : g.S.Source.gives_all l.initial.source → g.S.Source.gives_all l.source;
}

abbrev pub decreases-loop-chunk : goal.decreases-loop-chunk
decreases-loop-chunk g l = l.most - vec_len l.bytes
