use Rattle.std.proofs.Common.{◌∙◌, ◌++◌, List, [], ℕ, ap}
use Rattle.std.specs.Prelude.{option_copied}
use Rattle.rb_book.specs.Pages.{front_at, head_text}
use Rattle.rb_book.proofs.BookLaws.{four_parts}
use Rattle.rb_book.proofs.page.front.Goals as goal

pub returns : goal.returns
returns c =
    let place = c.as_bytes-place.result.now in
    let first = c.in_ok-add_head.ensures ∙ ap (λ (t : List ℕ). t ++ head_text place) c.new-text.ensures.items in
    four_parts [] _ _ _ _ _ _ _ _ first c.in_ok-add_links.ensures c.in_ok-add_without.ensures c.in_ok-extend_from_slice.ensures.items
    ∙ ap (λ (at : List ℕ). front_at at (option_copied c.args.last) (option_copied c.args.following)) c.as_bytes-place.ensures.value
