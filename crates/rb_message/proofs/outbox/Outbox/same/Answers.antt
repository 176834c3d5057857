use Rattle.std.proofs.Common.{◌∙◌, sym, rules}
use Rattle.rb_raftlog.proofs.PartLaws.{told_by_cuts}
use Rattle.rb_message.proofs.OutboxLaws.{paged_same}
use Rattle.rb_message.proofs.outbox.Outbox.same.Goals as goal

pub returns-then-same_messages : goal.returns-then-same_messages
returns-then-same_messages c =
    let told = told_by_cuts _ _ _ _ _ _ (paged_same _ _ _ _ c.self.invariant c.other.invariant) c.self.view_is c.other.view_is in
    let tails = sym c.deref.ensures.value ∙ c.same_messages.ensures.0 (search rules) ∙ c.deref-2.ensures.value in
    (λ h. told.0 (c.same_pages.ensures.0 h, tails), λ e. c.same_pages.ensures.1 (told.1 e).0)

pub returns-else-same_messages : goal.returns-else-same_messages
returns-else-same_messages c =
    let told = told_by_cuts _ _ _ _ _ _ (paged_same _ _ _ _ c.self.invariant c.other.invariant) c.self.view_is c.other.view_is in
    (search rules, λ e. c.same_messages.ensures.1 (c.deref.ensures.value ∙ (told.1 e).1 ∙ sym c.deref-2.ensures.value))
