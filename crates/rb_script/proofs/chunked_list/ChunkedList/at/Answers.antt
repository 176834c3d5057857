use Rattle.std.proofs.Common.{◌+◌, List, ap, sym, subst, ◌∙◌}
use Rattle.std.specs.Prelude.{slice_get}
use Rattle.rb_script.specs.Chunks.{IsInChunks}
use Rattle.rb_script.proofs.ChunkLaws.{item_is}
use Rattle.rb_script.proofs.chunked_list.ChunkedList.at.Goals as goal

pub returns : goal.returns
returns g c =
    let gs = c.self.inside.chunks.items in
    let at = c.args.index in
    let k = c.chunk_of-chunk.result in
    let found = subst (λ (l : List (List _)). IsInChunks l at k (k + 1)) c.deref.ensures.value c.chunk_of-chunk.ensures in
    ap (λ (l : List _). slice_get l at) (sym c.self.view_is)
    ∙ item_is gs c.self.inside.starts.items at k c.index.result.now c.self.invariant.starts_are found c.index.ensures c.index-2.result.now c.index-2.ensures
    c.as_slice.result.now c.index-as_slice-within.result c.as_slice.ensures c.index-as_slice-within.is
