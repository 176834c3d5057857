-- Where the next line of an editor begins.
use Rattle.std.specs.Prelude.{◌≡◌, ℕ, ◌+◌, ◌-◌, ◌<◌, ◌≤◌, ◌==◌, false, List, length, get_or}
use Rattle.rb_lsp.specs.declared.document.position.Encoding.{Encoding}
use Rattle.rb_lsp.specs.Places.{position_of}

-- no LF is between place k and another
abbrev pub HasNoFeed : ℕ → ℕ → List ℕ → Type 0
HasNoFeed k end text = (j : ℕ) → k ≤ j → j < end → (get_or text j 0 == 10) ≡ false

-- The next line begins after the one that contains place k, and no LF is before its last byte.
pub record IsLineBehind (k : ℕ) (text : List ℕ) (next : ℕ) : Type 0 where
  pub further : k < next
  pub within : next ≤ length text
  pub none : HasNoFeed k (next - 1) text
  pub first : (encoding : Encoding) → position_of encoding next text ≡ record { line = (position_of encoding k text).line + 1; character = 0 }
