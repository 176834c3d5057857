use Rattle.std.proofs.Common.{arith}
use Rattle.rb_message.proofs.OutboxLaws.{page_put}
use Rattle.rb_message.proofs.outbox.push_page.Goals as goal

pub returns : goal.returns
returns c =
    let put =
    page_put c.args.pages.now c.push.new.self c.args.tail.now.items c.full_page.new.tail.items c.in_ok-full_page.field-0 c.args.last c.requires.paged c.requires.full
    (omega (arith, c.if-len-ge-MAX_PAGES.false, c.len.ensures.value)) c.in_ok-full_page.ensures.page c.in_ok-push.ensures.ok c.full_page.ensures.none_left in
    record { paged = put.0; put = put.1 }
