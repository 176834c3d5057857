-- The chunks so far begin where it says.
use Rattle.std.proofs.Common.{◌≡◌, ◌≤◌, length}
use Rattle.rb_script.specs.Chunks.{before, AreStarts}
use Rattle.rb_script.proofs.chunked_list.ChunkedList.new.Given as goal

abbrev pub invariant-loop-chunk : goal.invariant-loop-chunk
invariant-loop-chunk g l = record {
  starts : AreStarts l.starts.items l.fn.chunks.items l.chunk-index;
  len : l.len ≡ before l.fn.chunks.items l.chunk-index;
  within : l.chunk-index ≤ length l.fn.chunks.items;
}
