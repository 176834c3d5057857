use Rattle.std.proofs.Common.{◌≡◌, ℕ, ◌∙◌, ap, subst, length, get_or, arith}
use Rattle.rb_script.specs.Chunks.{AreStarts}
use Rattle.rb_script.proofs.ChunkLaws.{before_more, before_all, starts_more}
use Rattle.rb_script.proofs.chunked_list.ChunkedList.new.Goals as goal

pub loop-chunk-preserved : goal.loop-chunk-preserved
loop-chunk-preserved g c =
    let gs = c.args.chunks.items in
    let i = c.loop-chunk.chunk-index in
    record {
      starts = starts_more gs c.loop-chunk.starts.items c.push.new.self.items i c.loop-chunk.len c.loop-chunk.invariant.starts c.loop-chunk.invariant.len c.in_ok-push.ensures.items;
      len = omega (arith, c.in-Some.ensures, before_more gs i c.chunk-item.result (omega arith) (c.chunk-item.is ∙ ap (λ gs. get_or gs c.loop-chunk.chunk-index c.chunk-item.result) c.deref-chunk-items.ensures.value));
      within = omega arith;
    }

pub invariant_of-result : goal.invariant_of-result
invariant_of-result g c =
    let gs = c.args.chunks.items in
    let i = c.loop-chunk.chunk-index in
    let end : i ≡ length gs = omega arith in
    record {
      starts_are = subst (λ (n : ℕ). AreStarts c.loop-chunk.starts.items gs n) end c.loop-chunk.invariant.starts;
      len_is = c.loop-chunk.invariant.len ∙ before_all gs i (omega arith);
    }
