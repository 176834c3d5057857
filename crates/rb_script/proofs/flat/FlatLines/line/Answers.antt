use Rattle.std.proofs.Common.{length, arith, ap}
use Rattle.rb_script.proofs.FlatLaws.{parted_len}
use Rattle.rb_script.proofs.flat.FlatLines.line.Goals as goal

pub line_of-requires-clause-line : goal.line_of-requires-clause-line
line_of-requires-clause-line c =
    omega (arith, ap length c.self.view_is, parted_len 0 c.self.inside.ends.items c.self.inside.text, ap length c.as_slice-2.ensures)
