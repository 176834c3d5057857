use Rattle.std.proofs.Common.{arith}
use Rattle.rb_raftlog.proofs.CutLaws.{end_of_rest}
use Rattle.rb_raftlog.proofs.content.Content.end.Goals as goal

pub returns : goal.returns
returns c =
    end_of_rest c.self.inside.pieces c.self.inside.rest.items c.deref.result.now c.args.self.now c.saturating_sub.result c.self.invariant.0 c.deref.ensures.value (omega (arith, c.saturating_sub.ensures, c.len.ensures, c.deref.ensures.len)) c.self.view_is
