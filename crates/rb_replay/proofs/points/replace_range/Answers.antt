use Rattle.std.proofs.Common.{arith}
use Rattle.rb_replay.proofs.PlaceLaws.{fewer_came, no_fewer_came}
use Rattle.rb_replay.proofs.points.replace_range.Goals as goal

pub returns-then-from-count : goal.returns-then-from-count
returns-then-from-count g c =
    fewer_came c.args.items.now.items c.args.fresh.now.items c.swap_range.new.items.items c.args.from c.min-count.result (omega (arith, c.args.fresh.now.ok.0)) (omega (arith, c.args.items.now.ok.0)) c.swap_range.ensures.items
    c.args.to c.remove_range.new.items.items (omega (arith, c.args.fresh.now.ok.0)) (omega arith) c.remove_range.ensures.items

pub returns-else-from-count : goal.returns-else-from-count
returns-else-from-count g c =
    no_fewer_came c.args.items.now.items c.args.fresh.now.items c.swap_range.new.items.items c.args.from c.min-count.result (omega (arith, c.args.fresh.now.ok.0)) (omega (arith, c.args.items.now.ok.0)) c.swap_range.ensures.items
    c.args.to c.swap_range.new.fresh.items c.remove_range-else-from-count.new.items.items c.insert_at.new.items.items (omega arith) c.swap_range.ensures.fresh c.remove_range-else-from-count.ensures.items c.insert_at.ensures
