-- The block stands between these chunks.
use Rattle.std.proofs.Common.{◌-◌}
use Rattle.rb_script.specs.Chunks.{IsInChunks}
use Rattle.rb_script.proofs.chunked_list.chunk_of.Given as goal

abbrev pub invariant-loop-high : goal.invariant-loop-high
invariant-loop-high g l = IsInChunks l.chunks l.at l.low l.high

abbrev pub decreases-loop-high : goal.decreases-loop-high
decreases-loop-high g l = l.high - l.low
