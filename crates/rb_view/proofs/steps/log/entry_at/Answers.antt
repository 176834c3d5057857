use Rattle.rb_view.proofs.LogLaws.{entry_there, entry_held}
use Rattle.rb_view.proofs.steps.log.entry_at.Goals as goal

pub returns : goal.returns
returns g c = entry_there (g.L.RaftLog.plain c.args.log.now) c.args.index c.held_entry.result.now c.requires.above c.held_entry.ensures

pub held_entry-requires : goal.held_entry-requires
held_entry-requires g c = entry_held (g.L.RaftLog.plain c.args.log.now) c.args.index c.requires.above c.requires.within
