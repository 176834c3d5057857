use Rattle.std.proofs.Common.{◌∙◌, List, ℕ, ◌++◌, ap, append_assoc}
use Rattle.std.specs.Prelude.{codes}
use Rattle.rb_lsp.specs.declared.document.position.Position.{Position}
use Rattle.rb_lsp.specs.Tables.{start_of}
use Rattle.rb_editor.specs.Texts.{range_member}
use Rattle.rb_editor.specs.Published.{place_text}
use Rattle.rb_editor.proofs.actions.publishing.add_place.Goals as goal

pub returns : goal.returns
unfolding place_text
returns c =
    let encoding = c.args.encoding in
    let text = c.args.text.now in
    let old = c.args.out.now.items in
    let first = c.start_of-start.result in
    let last = c.start_of-end.result in
    let lead = codes ",\"relatedInformation\":[{\"location\":" in
    c.in_ok-add_range_member.ensures
    ∙ ap (λ (l : List ℕ). l ++ range_member first last) c.in_ok-extend_from_slice.ensures.items
    ∙ append_assoc old lead (range_member first last)
    ∙ ap (λ (p : Position). old ++ (lead ++ range_member p last)) (c.start_of-start.ensures encoding text c.requires)
    ∙ ap (λ (p : Position). old ++ (lead ++ range_member (start_of encoding c.args.first text) p)) (c.start_of-end.ensures encoding text c.requires)
