use Rattle.std.proofs.Common.{arith, ap, length}
use Rattle.rb_message.proofs.OutboxLaws.{paged_size}
use Rattle.rb_message.proofs.outbox.Outbox.len.Goals as goal

pub returns : goal.returns
returns c = omega (arith, paged_size c.self.inside.pages c.self.inside.tail.items c.self.invariant, ap length c.self.view_is)
