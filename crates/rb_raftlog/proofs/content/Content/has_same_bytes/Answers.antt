use Rattle.std.proofs.Common.{◌∙◌, sym, rules}
use Rattle.rb_raftlog.proofs.CutLaws.{cut_same}
use Rattle.rb_raftlog.proofs.PartLaws.{told_by_cuts}
use Rattle.rb_raftlog.proofs.content.Content.has_same_bytes.Goals as goal

pub returns-then-same_bytes : goal.returns-then-same_bytes
returns-then-same_bytes c =
    let told = told_by_cuts _ _ _ _ _ _ (cut_same _ _ _ _ c.self.invariant.0 c.other.invariant.0) c.self.view_is c.other.view_is in
    let rests = sym c.deref.ensures.value ∙ c.same_bytes.ensures.0 (search rules) ∙ c.deref-2.ensures.value in
    (λ h. told.0 (c.same_pieces.ensures.0 h, rests), λ e. c.same_pieces.ensures.1 (told.1 e).0)

pub returns-else-same_bytes : goal.returns-else-same_bytes
returns-else-same_bytes c =
    let told = told_by_cuts _ _ _ _ _ _ (cut_same _ _ _ _ c.self.invariant.0 c.other.invariant.0) c.self.view_is c.other.view_is in
    (search rules, λ e. c.same_bytes.ensures.1 (c.deref.ensures.value ∙ (told.1 e).1 ∙ sym c.deref-2.ensures.value))
