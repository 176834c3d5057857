use Rattle.std.proofs.Common.{◌≡◌, ◌++◌, List, ℕ, subst}
use Rattle.std.specs.Prelude.{OnOk, codes}
use Rattle.rb_book.specs.Html.{address_of, text_of, up_from}
use Rattle.rb_book.specs.Pages.{link_sign}
use Rattle.rb_book.proofs.page.add_link_to.Goals as goal

pub returns : goal.returns
returns c =
    let name = c.args.name.now in
    let added = λ (front sign : List ℕ). OnOk c.add_pieces.result (c.add_pieces.new.text.items ≡ c.args.text.now.items
    ++ (front ++ (up_from c.args.place.now ++ (address_of name ++ (sign ++ (text_of name ++ codes "</a>")))))) in
    subst (λ (front : List ℕ). added front (link_sign c.args.neighbour)) c.link_front.ensures
    (subst (λ (sign : List ℕ). added c.link_front.result.now sign) c.link_sign.ensures c.add_pieces.ensures)
