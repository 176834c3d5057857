use Rattle.rb_book.proofs.BookLaws.{four_parts}
use Rattle.rb_book.proofs.page.add_links.Goals as goal

pub returns : goal.returns
returns c = four_parts _ _ _ _ _ _ _ _ _ c.in_ok-add_first_link.ensures c.in_ok-add_link.ensures c.in_ok-add_link-2.ensures c.in_ok-extend_from_slice.ensures.items
