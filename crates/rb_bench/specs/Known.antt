-- Statements about the lines of an input, if its bytes are known. (This project's.)
use Rattle.std.specs.Prelude.{ℕ, List, Option, Some, None, ⊤}
use Rattle.rb_script.specs.Lines.{Line, lines}

-- of the lines that were left and those that are left now, where the bytes are known
abbrev pub IfKnown : Option (List ℕ) → Option (List ℕ) → (List Line → List Line → Type 0) → Type 0
IfKnown None after holds = ⊤
IfKnown (Some bytes) None holds = ⊥
IfKnown (Some bytes) (Some rest) holds = holds (lines bytes) (lines rest)
