use Rattle.rb_raftlog.proofs.EqualLaws.{lists_answer}
use Rattle.rb_raftlog.proofs.entries.EntriesPartialEq.eq.Goals as goal

pub returns : goal.returns
returns c = lists_answer c.args.self.now c.args.other.now c.same.result (c.same.ensures.0, c.same.ensures.1)
