use Rattle.std.proofs.Common.{ap}
use Rattle.rb_script.specs.Shared.{values}
use Rattle.rb_script.proofs.ChunkLaws.{three_parts}
use Rattle.rb_script.proofs.chunked_list.spliced.Goals as goal

pub returns : goal.returns
returns g c =
    three_parts (values c.args.front.now) (values c.args.new.now) (values c.args.rest.now) (values c.in_ok-made.made.items) (values c.share.new.into.items) (values c.share-2.new.into.items) (values c.share-3.new.into.items)
    (ap values c.in_ok-made.ensures.items) c.in_ok-share.ensures c.in_ok-share-2.ensures c.in_ok-share-3.ensures
