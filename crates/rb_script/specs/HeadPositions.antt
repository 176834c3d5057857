-- A position in a joined head. (This project's.)
use Rattle.std.specs.Prelude.{◌≡◌, ℕ, ◌<◌, ◌≤◌, ◌^◌, List, length, take}
use Rattle.std.specs.List.{AllByRecursion}
use Rattle.rb_script.specs.Lines.{Line}
use Rattle.rb_script.specs.Valid.{IsLine}
use Rattle.rb_script.specs.Tokens.{line_at}

-- the lines of the head, and the rest of them, joined
pub record HeadPosition : Type 0 where
  pub head : List Line
  pub left : List ℕ

-- The line is there, the piece is a beginning of it, and the position is in the piece. The lines are few, and short.
pub record IsHeadPosition (head : List Line) (line : ℕ) (piece : List ℕ) (at : ℕ) : Type 0 where
  pub there : line < length head
  pub part : piece ≡ take (length piece) (line_at head line)
  pub fits : length piece ≤ length (line_at head line)
  pub within : at ≤ length piece
  pub few : length head < 2 ^ 32
  pub lines : AllByRecursion IsLine head
