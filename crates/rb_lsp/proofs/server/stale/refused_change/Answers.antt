use Rattle.std.proofs.Common.{◌≡◌, ◌++◌, IfOk, ℕ, List, ap, subst, ◌∙◌}
use Rattle.rb_lsp.specs.Messages.{frame}
use Rattle.rb_lsp.specs.Notices.{stale_text}
use Rattle.rb_lsp.proofs.server.stale.refused_change.Goals as goal

pub returns : goal.returns
unfolding stale_text
returns c =
    let text = stale_text c.args.known c.args.told in
    let is : c.as_slice.result.now ≡ text = c.as_slice.ensures.value ∙ c.in_ok-add_pieces.ensures ∙ ap (λ (l : List ℕ). l ++ text) c.new-body.ensures.items in
    subst (λ (l : List ℕ). IfOk c.framed.result (λ out. out.items ≡ frame l)) is c.framed.ensures
