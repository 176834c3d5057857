-- The items that are left, and those in chunks behind them.
use Rattle.std.proofs.Common.{◌≡◌, ◌++◌, reverse, vec_len}
use Rattle.rb_script.specs.Shared.{values}
use Rattle.rb_script.specs.Chunks.{flattened}
use Rattle.rb_script.proofs.chunked_list.in_chunks.Given as goal

abbrev pub invariant-loop-alloc : goal.invariant-loop-alloc
invariant-loop-alloc g l = values l.items.items ++ flattened (reverse l.chunks.items) ≡ values l.fn.items.items

abbrev pub decreases-loop-alloc : goal.decreases-loop-alloc
decreases-loop-alloc g l = vec_len l.items
