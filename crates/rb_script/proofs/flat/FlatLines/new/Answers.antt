use Rattle.rb_script.proofs.FlatLaws.{flat_nil}
use Rattle.rb_script.proofs.flat.FlatLines.new.Goals as goal

pub invariant_of-result : goal.invariant_of-result
invariant_of-result c = (flat_nil c.new-2.result.items c.new.result c.new-2.ensures.items c.new.ensures).0

pub returns : goal.returns
returns c = (flat_nil c.new-2.result.items c.new.result c.new-2.ensures.items c.new.ensures).1
