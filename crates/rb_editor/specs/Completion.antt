-- What a text can continue with at a place. (LSP 3.17, "CompletionItem": kind 3 is a function, 10 a property, 12 a value.)
use Rattle.std.specs.Prelude.{ℕ, ◌-◌, Bool, true, ◌&&◌, List, [], ◌++◌, codes, decimal, drop, length, slice_index_or, Option, Some, None}
use Rattle.std.specs.List.{flat_map}
use Rattle.rb_script.specs.Lines.{lines}
use Rattle.rb_script.specs.Marks.{is_blank}
use Rattle.rb_text.specs.Json.{escaped}
use Rattle.rb_lsp.specs.Places.{position_of}
use Rattle.rb_lsp.specs.declared.server.client.Client.{Client}
use Rattle.rb_editor.specs.declared.offers.completion.ItemPlace.{ItemPlace}
use Rattle.rb_editor.specs.declared.offers.offer.OfferKind.{OfferKind}
use Rattle.rb_editor.specs.declared.offers.offer.OfferKind.TheVariants as kinds
use Rattle.rb_editor.specs.Unfinished.{wanted_of}
use Rattle.rb_editor.specs.Offers.{PlainOffer, offers}
use Rattle.rb_editor.specs.Ids.{change_offers, change_wanted, id_offers}
use Rattle.rb_editor.specs.Places.{PlainPlace}
use Rattle.rb_editor.specs.Texts.{list_text, range_text}

abbrev pub kind_number : OfferKind → ℕ
kind_number kinds.Directive = 3
kind_number kinds.Key = 10
kind_number kinds.Value = 12

-- what follows a word
abbrev pub mark : OfferKind → List ℕ
mark kinds.Directive = []
mark kinds.Key = codes "="
mark kinds.Value = []

-- the item of a word, before the range of its edit and after it
unfoldable pub front_text : PlainOffer → List ℕ
front_text o =
    codes "{\"label\":\"" ++ (flat_map escaped o.word ++ (mark o.kind ++ (codes "\",\"kind\":" ++ (decimal (kind_number o.kind)
    ++ (codes ",\"documentation\":\"" ++ (flat_map escaped o.documentation ++ codes "\",\"textEdit\":{\"range\":"))))))

-- A name may come with the line `----` and an empty line below it, as a snippet: the cursor is behind the name, and then in the empty line.
-- (LSP 3.17, "InsertTextFormat" 2 and "Snippet Syntax".)
abbrev pub end_text : Bool → OfferKind → List ℕ
end_text true kinds.Directive = codes "$1\\n----\\n$0\"},\"insertTextFormat\":2}"
end_text has_block kind = codes "\"}}"

unfoldable pub back_text : Bool → PlainOffer → List ℕ
back_text has_block o = codes ",\"newText\":\"" ++ (flat_map escaped o.word ++ (mark o.kind ++ end_text has_block o.kind))

-- a word, in place of the text there; a name has its block if that is wanted
unfoldable pub item_text : ItemPlace → PlainOffer → List ℕ
item_text p o = front_text o ++ (range_text p.start p.end ++ back_text p.has_block o)

-- the line at an index is blank, or there is none
abbrev pub is_blank_at : ℕ → List ℕ → Bool
is_blank_at n text = is_blank (slice_index_or (lines text) n [])

-- a name at an offset has its block if the client takes snippets, and nothing is behind it, nor on the line below
abbrev pub has_block : Client → List ℕ → ℕ → Bool
has_block client text at = client.takes_snippets && (is_blank_at 0 (drop at text) && is_blank_at 1 (drop at text))

-- in place of a prefix that ends at an offset
abbrev pub items_place : Client → List ℕ → ℕ → List ℕ → ItemPlace
items_place client text at prefix =
    record { start = position_of client.encoding (at - length prefix) text; end = position_of client.encoding at text; has_block = has_block client text at }

-- words, each in that place
abbrev pub items_text : Client → List ℕ → ℕ → List ℕ → List PlainOffer → List ℕ
items_text client text at prefix os = list_text (item_text (items_place client text at prefix)) os

-- the words that a head can continue with, which ends at an offset, in a cluster with this many nodes
unfoldable pub of_head : Client → List ℕ → ℕ → ℕ → List ℕ → List ℕ
of_head client text at nodes head = items_text client text at (wanted_of head).prefix (offers head (wanted_of head) ++ id_offers nodes head (wanted_of head))

unfoldable pub of_change : Client → List ℕ → ℕ → ℕ → List ℕ → List ℕ
of_change client text at nodes front = items_text client text at (change_wanted front).prefix (change_offers nodes front)

abbrev pub of_input : Client → List ℕ → ℕ → ℕ → Option (List ℕ) → List ℕ
of_input client text at nodes None = codes "[]"
of_input client text at nodes (Some front) = of_change client text at nodes front

abbrev pub of_place : Client → List ℕ → ℕ → ℕ → Option (List ℕ) → Option (List ℕ) → List ℕ
of_place client text at nodes None change = of_input client text at nodes change
of_place client text at nodes (Some head) change = of_head client text at nodes head

-- those of the head or the input at a place; none elsewhere
unfoldable pub completion : Client → List ℕ → PlainPlace → ℕ → List ℕ
completion client text p nodes = of_place client text p.at nodes p.head p.change
