use Rattle.std.proofs.Common.{arith}
use Rattle.rb_script.proofs.FlatLaws.{parted_len}
use Rattle.rb_script.proofs.flat.FlatLines.len.Goals as goal

pub returns : goal.returns
returns c = rw (← c.self.view_is) (omega (arith, parted_len 0 c.self.inside.ends.items c.self.inside.text))
