use Rattle.std.proofs.Common.{ap, ◌∙◌}
use Rattle.std.proofs.lemmas.Result.{on_ok_weaker}
use Rattle.rb_script.specs.Shared.{values}
use Rattle.rb_script.specs.Chunks.{flattened}
use Rattle.rb_script.proofs.ChunkLaws.{flattened_end}
use Rattle.rb_script.proofs.chunked_list.push_chunks.Goals as goal

pub returns-then-len-le-MAX_CHUNK_LEN : goal.returns-then-len-le-MAX_CHUNK_LEN
returns-then-len-le-MAX_CHUNK_LEN g c = on_ok_weaker c.push_chunk.result (λ e. ap flattened e ∙ flattened_end c.args.chunks.now.items (values c.args.items.items)) c.push_chunk.ensures
