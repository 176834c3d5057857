use Rattle.std.proofs.Common.{arith}
use Rattle.rb_view.proofs.LookLaws.{nodes_more}
use Rattle.rb_view.proofs.look.looking.add_nodes.Goals as goal

pub loop-i-preserved : goal.loop-i-preserved
loop-i-preserved g c = record {
  so_far = nodes_more (g.M.Machine.meaning c.args.machine.now) c.loop-i.lines c.args.lines.now c.add_node.new.lines c.loop-i.i c.args.count c.loop-i-test.true c.loop-i.invariant.so_far c.in_ok-add_node.ensures.added;
  counted = omega (arith, c.loop-i.invariant.counted, c.add_node.ensures.counted);
}
