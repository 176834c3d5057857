-- What the code found, by positions in the lines, as lines. (This project's.)
use Rattle.std.specs.Prelude.{◌≡◌, ℕ, ◌≤◌, Bool, List, length, drop, Option, Some, None}
use Rattle.rb_script.specs.Lines.{Line}
use Rattle.rb_script.specs.Flat.{between}
use Rattle.rb_script.specs.Runs.{while_of, after_while}
use Rattle.rb_script.specs.Expectations.{Expectation}

-- the run of lines that begins at one position ends at another
pub record RunsTo (p : Line → Bool) (all : List Line) (start end : ℕ) : Type 0 where
  pub order : (start ≤ end) × (end ≤ length all)
  pub run : between start end all ≡ while_of p (drop start all)
  pub rest : drop end all ≡ after_while p (drop start all)

-- the expected lines, and the position after them
abbrev pub seen : List Line → Option (List Line × ℕ) → Expectation
seen all None = None
seen all (Some found) = Some (found.0, drop found.1 all)

-- where the first of two lines ---- is, and the position after both
abbrev pub pair_seen : List Line → ℕ → Option (ℕ × ℕ) → Expectation
pair_seen all start None = None
pair_seen all start (Some found) = Some (between start found.0 all, drop found.1 all)
