use Rattle.std.proofs.Common.{arith, ◌∙◌}
use Rattle.rb_raftlog.proofs.ListLaws.{copied_more}
use Rattle.rb_raftlog.proofs.entry_list.append_from.Goals as goal

pub loop-k-preserved : goal.loop-k-preserved
loop-k-preserved g c =
    copied_more _ _ _ _ c.args.from c.loop-k.k _ _ (omega arith) (omega (arith, c.len-k-end.ensures)) c.loop-k.invariant c.in_ok-push.ensures.ok (c.in_ok-try_copy.ensures ∙ c.entry.ensures)
