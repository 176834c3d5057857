use Rattle.rb_script.proofs.FlatLaws.{flat_pushed, parted_pushed}
use Rattle.rb_script.proofs.flat.FlatLines.push.Goals as goal

pub invariant_of-self : goal.invariant_of-self
invariant_of-self c = flat_pushed c.append_line.result c.self.inside.ends.items c.self.inside.text c.append_line.new.ends.items c.append_line.new.text c.args.line.now c.self.invariant c.append_line.ensures.text c.append_line.ensures.ends c.append_line.ensures.err

pub returns-clause-ok : goal.returns-clause-ok
returns-clause-ok c = rw (← c.self.view_is) (parted_pushed c.append_line.result c.self.inside.ends.items c.self.inside.text c.append_line.new.ends.items c.append_line.new.text c.args.line.now c.self.invariant c.append_line.ensures.text c.append_line.ensures.ends)
