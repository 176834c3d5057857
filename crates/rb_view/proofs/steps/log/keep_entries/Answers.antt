use Rattle.std.proofs.Common.{◌<◌, arith}
use Rattle.rb_view.proofs.LogLaws.{entries_more}
use Rattle.rb_view.proofs.steps.log.keep_entries.Goals as goal

pub loop-index-preserved : goal.loop-index-preserved
loop-index-preserved g c =
    let v = g.L.RaftLog.plain c.args.log.now in
    let above : v.base < c.loop-index.index = omega (arith, c.requires.above, c.loop-index.auto.index) in
    entries_more v c.loop-index.index c.entry_at.result.now c.loop-index.texts c.keep_entry.new.texts _ above c.entry_at.ensures c.in_ok-keep_entry.ensures c.loop-index.invariant
