use Rattle.std.proofs.Common.{length, arith, ap}
use Rattle.rb_script.proofs.FlatLaws.{parted_len}
use Rattle.rb_script.proofs.flat.FlatLines.text_between.Goals as goal

pub text_part-requires-clause-within : goal.text_part-requires-clause-within
text_part-requires-clause-within c =
    omega (arith, c.requires.within, ap length c.self.view_is, parted_len 0 c.self.inside.ends.items c.self.inside.text, ap length c.as_slice-2.ensures)
