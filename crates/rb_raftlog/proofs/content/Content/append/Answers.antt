use Rattle.std.proofs.Common.{arith, drop, length, length-take, length-drop, ◌-◌}
use Rattle.rb_raftlog.proofs.ListLaws.{grown}
use Rattle.rb_raftlog.proofs.content.Content.append.Goals as goal

pub loop-done-preserved : goal.loop-done-preserved
loop-done-preserved c =
    let bytes = c.args.bytes.now in
    let d = c.loop-done.done in
    record {
      within = omega (arith, c.in_ok-done.ensures.1, length-take (length bytes - d) (drop d bytes), length-drop d bytes);
      so_far = grown c.args.self.now bytes c.loop-done.self c.append_some.new.self d c.in_ok-done.field-0 c.loop-done.invariant.so_far c.in_ok-done.ensures.2;
    }
