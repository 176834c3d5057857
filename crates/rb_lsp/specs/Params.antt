-- Parameters of a method, by the keys that lead to them. (LSP 3.17, "Position", "Range" and "TextDocumentIdentifier".)
use Rattle.std.specs.Prelude.{ℕ, List, [], ◌∷◌, ◌++◌, Option, Some, None, codes, option_and_then}
use Rattle.serde_json.specs.Data.{Data, Items, no_items, item}
use Rattle.serde_json.specs.Find.{get, as_str, as_number, as_u64}
use Rattle.rb_lsp.specs.declared.document.position.Position.{Position}
use Rattle.rb_lsp.specs.declared.document.position.Range.{Range}

abbrev pub text_at : List ℕ → Data → Option (List ℕ)
text_at key d = option_and_then as_str (get key d)

-- the text at a key of the object at another
abbrev pub text_below : List ℕ → List ℕ → Data → Option (List ℕ)
text_below key inner d = option_and_then (text_at inner) (get key d)

abbrev pub number_at : List ℕ → Data → Option ℕ
number_at key d = option_and_then (λ v. option_and_then as_u64 (as_number v)) (get key d)

-- the number at a key of the object at another
abbrev pub number_below : List ℕ → List ℕ → Data → Option ℕ
number_below key inner d = option_and_then (number_at inner) (get key d)

-- a position, if both of its numbers are there
abbrev pub position_of_both : Option ℕ → Option ℕ → Option Position
position_of_both None character = None
position_of_both (Some line) None = None
position_of_both (Some line) (Some character) = Some (record { line = line; character = character })

abbrev pub as_position : Data → Option Position
as_position d = position_of_both (number_at (codes "line") d) (number_at (codes "character") d)

abbrev pub position_at : List ℕ → Data → Option Position
position_at key d = option_and_then as_position (get key d)

abbrev pub position_list : Option Position → List Position
position_list None = []
position_list (Some p) = p ∷ []

-- the positions among some values
abbrev pub positions_in : Items → List Position
positions_in no_items = []
positions_in (item d ds) = position_list (as_position d) ++ positions_in ds

-- a range, if both of its positions are there
abbrev pub range_of_both : Option Position → Option Position → Option Range
range_of_both None end = None
range_of_both (Some start) None = None
range_of_both (Some start) (Some end) = Some (record { start = start; end = end })

abbrev pub as_range : Data → Option Range
as_range d = range_of_both (position_at (codes "start") d) (position_at (codes "end") d)

abbrev pub range_at : List ℕ → Data → Option Range
range_at key d = option_and_then as_range (get key d)
