use Rattle.std.proofs.Common.{◌∙◌, ◌++◌, take}
use Rattle.rb_raftlog.specs.Packed.{joined}
use Rattle.rb_raftlog.proofs.SumLaws.{sum_grown}
use Rattle.rb_raftlog.proofs.content.Content.append_some.Goals as goal

pub invariant_of-self-2 : goal.invariant_of-self-2
invariant_of-self-2 c =
    let old = joined c.self.inside.pieces ++ c.self.inside.rest.items in
    let new = joined c.grow.new.pieces ++ c.grow.new.rest.items in
    let more = take c.min-n.result c.args.bytes.now in
    (c.grow.ensures.cut, c.sum_from-self-inside.ensures ∙ sum_grown old new more c.self.inside.sum c.self.invariant.1 c.in_ok-grow.ensures.ok)
