use Rattle.std.proofs.Common.{arith, ap, length}
use Rattle.rb_raftlog.proofs.CutLaws.{cut_size}
use Rattle.rb_raftlog.proofs.content.Content.len.Goals as goal

pub returns : goal.returns
returns c = omega (arith, cut_size c.self.inside.pieces c.self.inside.rest.items c.self.invariant.0, ap length c.self.view_is)
