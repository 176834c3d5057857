use Rattle.std.proofs.Common.{arith, refl, sym, ◌∙◌}
use Rattle.std.proofs.lemmas.Bool.{eqb-true}
use Rattle.rb_script.specs.Shared.{values}
use Rattle.rb_script.proofs.ChunkLaws.{grouped_more, grouped_all}
use Rattle.rb_script.proofs.chunked_list.in_chunks.Goals as goal

pub loop-alloc-preserved : goal.loop-alloc-preserved
loop-alloc-preserved g c =
    grouped_more c.loop-alloc.items.items c.split_off.new.self.items c.in_ok-last.last.items c.loop-alloc.chunks.items c.push_chunk.new.chunks.items (values c.in_ok-last.last.items) (values c.args.items.items) _
    c.in_ok-last.ensures.items c.in_ok-last.ensures.tail refl c.in_ok-push_chunk.ensures c.loop-alloc.invariant

pub returns : goal.returns
returns g c = grouped_all c.loop-alloc.items.items c.loop-alloc.chunks.items c.reverse.new.self.items (values c.args.items.items) (let none = eqb-true c.loop-alloc.items.len 0 (sym c.is_empty.ensures ∙ c.loop-alloc-test.false) in omega (arith, none, c.loop-alloc.items.ok.0)) c.reverse.ensures.items c.loop-alloc.invariant
