-- A partial line. (This project's; rb_script's Lines say what a line is.)
use Rattle.std.specs.Prelude.{◌≡◌, ◌≢◌, ◌<◌, ◌≤◌, ℕ, List, [], ◌∷◌, ◌++◌, length, take}
use Rattle.std.specs.List.{All}
use Rattle.rb_script.specs.Lines.{without_returns}
use Rattle.rb_script.specs.declared.limits.TheConstants.{MAX_LINE}

-- the bytes contain no LF
abbrev pub HasNoNewline : List ℕ → Type 0
HasNoNewline begun = All (λ b. b ≢ 10) begun

-- the line is already too long
pub record IsLong (begun : List ℕ) : Type 0 where
  pub no_newline : HasNoNewline begun
  pub above : MAX_LINE < length (without_returns begun)

-- the bytes begin a line that isn't too long yet, and `kept` is stored of them
pub record Holds (begun kept : List ℕ) : Type 0 where
  pub no_newline : HasNoNewline begun
  pub within : length (without_returns begun) ≤ MAX_LINE
  pub front : kept ≡ take MAX_LINE begun

-- the last byte makes the line too long
pub record TurnsLong (begun : List ℕ) : Type 0 where
  pub front : List ℕ
  pub last : ℕ
  pub parts : begun ≡ front ++ last ∷ []
  pub within : length (without_returns front) ≤ MAX_LINE
  pub long : IsLong begun
