-- Positions, ranges and lists as JSON. (LSP 3.17, "Position" and "Range"; RFC 8259, section 5.)
use Rattle.std.specs.Prelude.{ℕ, List, [], ◌∷◌, ◌++◌, codes, decimal}
use Rattle.rb_lsp.specs.declared.document.position.Position.{Position}

unfoldable pub position_text : Position → List ℕ
position_text p = codes "{\"line\":" ++ (decimal p.line ++ (codes ",\"character\":" ++ (decimal p.character ++ codes "}")))

unfoldable pub range_text : Position → Position → List ℕ
range_text start end = codes "{\"start\":" ++ (position_text start ++ (codes ",\"end\":" ++ (position_text end ++ codes "}")))

-- the beginning of an object whose first member is a range
unfoldable pub range_member : Position → Position → List ℕ
range_member start end = codes "{\"range\":" ++ range_text start end

-- items by their texts: `lead` before the first, commas before the others, and the end of the list
unfoldable pub listed : {X : Type 0} → (X → List ℕ) → List ℕ → List X → List ℕ
listed text lead [] = codes "]"
listed text lead (x ∷ xs) = lead ++ (text x ++ listed text (codes ",") xs)

-- a list of them
unfoldable pub list_text : {X : Type 0} → (X → List ℕ) → List X → List ℕ
list_text text xs = codes "[" ++ listed text [] xs
