use Rattle.std.proofs.Common.{arith, ◌∙◌}
use Rattle.rb_message.proofs.OutboxLaws.{page_at, tail_at, in_tail}
use Rattle.rb_message.proofs.outbox.Outbox.message.Goals as goal

pub returns-then-k-len : goal.returns-then-k-len
returns-then-k-len c =
    page_at c.self.inside.pages c.self.inside.tail.items c.args.self.now c.as_slice.result.now c.item.result.now c.args.k c.index-as_slice-k.result c.self.invariant c.self.view_is
    (omega (arith, c.if-k-len.true, c.len.ensures.value)) (c.as_slice.ensures ∙ c.item.ensures) c.index-as_slice-k.is

pub index-requires : goal.index-requires
index-requires c =
    omega (arith, c.if-k-len.false, c.len.ensures.value, c.len-2.ensures.value, in_tail c.self.inside.pages c.self.inside.tail.items c.args.self.now c.args.k c.self.invariant c.self.view_is c.requires (omega (arith, c.if-k-len.false, c.len.ensures.value)))

pub returns : goal.returns
returns c =
    tail_at c.self.inside.pages c.self.inside.tail.items c.args.self.now c.args.k _ c.index.result.now c.self.invariant c.self.view_is c.requires
    (omega (arith, c.if-k-len.false, c.len.ensures.value)) (omega (arith, c.len-2.ensures.value)) c.index.ensures
