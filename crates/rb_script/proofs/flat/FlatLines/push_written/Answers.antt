use Rattle.rb_script.proofs.FlatLaws.{flat_written, parted_pushed}
use Rattle.rb_script.proofs.flat.FlatLines.push_written.Goals as goal

pub invariant_of-self : goal.invariant_of-self
invariant_of-self g c = flat_written c.write_or_clear.result c.self.inside.ends.items c.self.inside.text c.write_or_clear.new.ends.items c.write_or_clear.new.text (g.W.WrittenLine.bytes c.args.line.now) c.self.invariant c.write_or_clear.ensures.text c.write_or_clear.ensures.ends c.write_or_clear.ensures.err

pub returns : goal.returns
returns g c = rw (← c.self.view_is) (parted_pushed c.write_or_clear.result c.self.inside.ends.items c.self.inside.text c.write_or_clear.new.ends.items c.write_or_clear.new.text (g.W.WrittenLine.bytes c.args.line.now) c.self.invariant c.write_or_clear.ensures.text c.write_or_clear.ensures.ends)
