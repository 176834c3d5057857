use Rattle.std.proofs.Common.{◌≡◌, ◌∙◌, ℕ, List, Bor, ap, map}
use Rattle.rb_files.specs.Names.{parts_of, strange_names, text_names}
use Rattle.rb_files.proofs.NameLaws.{listed_names}
use Rattle.rb_files.proofs.listing.listing_of.Goals as goal

pub returns : goal.returns
returns c =
    let parts : map (λ (p : Bor (List ℕ)). p.now) c.as_slice.result.now ≡ parts_of c.args.bytes.now = ap (map (λ (p : Bor (List ℕ)). p.now)) c.as_slice.ensures.value ∙ c.in_ok-parts.ensures in
    record {
      order = c.put_in_order.ensures.order;
      names = λ name. listed_names c.in_ok-listing.listing.names.items c.put_in_order.new.names.items (text_names (parts_of c.args.bytes.now)) name
          (c.in_ok-listing.ensures.names ∙ ap text_names parts) (c.put_in_order.ensures.same name);
      strange = c.in_ok-listing.ensures.strange ∙ ap strange_names parts;
    }
