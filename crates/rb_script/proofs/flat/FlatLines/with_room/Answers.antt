use Rattle.rb_script.proofs.FlatLaws.{flat_nil}
use Rattle.rb_script.proofs.flat.FlatLines.with_room.Goals as goal

pub invariant_of-result : goal.invariant_of-result
invariant_of-result c = (flat_nil c.new.result.items c.in_ok-with_room.field-0 c.new.ensures.items c.in_ok-with_room.ensures).0

pub returns : goal.returns
returns c = (flat_nil c.new.result.items c.in_ok-with_room.field-0 c.new.ensures.items c.in_ok-with_room.ensures).1
