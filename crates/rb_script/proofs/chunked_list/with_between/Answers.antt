use Rattle.std.proofs.Common.{◌-◌, length, take, drop, refl}
use Rattle.std.proofs.lemmas.Result.{IfOk-weaker}
use Rattle.rb_script.specs.Shared.{values}
use Rattle.rb_script.specs.Chunks.{flattened}
use Rattle.rb_script.proofs.ChunkLaws.{front_of, rest_of, part_is}
use Rattle.rb_script.proofs.chunked_list.with_between.Goals as goal

pub returns : goal.returns
returns g c =
    let gs = c.args.chunks.now in
    let from = c.args.from in
    let to = c.args.to in
    let ps = c.as_slice.result.now in
    let qs = c.as_slice-2.result.now in
    let front = take from.within ps in
    let rest = take (length qs - to.within) (drop to.within qs) in
    let before_is = front_of gs from c.index-chunks-from.result ps front c.requires.from c.index-chunks-from.is c.as_slice.ensures refl in
    let behind_is = rest_of gs to c.index-chunks-to.result qs rest c.requires.to c.index-chunks-to.is c.as_slice-2.ensures refl in
    IfOk-weaker c.with_chunks.result _ _
    (λ made is. part_is gs from.chunk to.chunk (values front) (values c.args.new.now) (values rest) (values c.in_ok-middle.middle.items) (flattened made.items) _ _ c.in_ok-middle.ensures is before_is behind_is)
    c.with_chunks.ensures
