-- On which lines of the bytes, as they are, the heads of blocks begin. (This project's. Lines count from 1.)
use Rattle.std.specs.Prelude.{◌≡◌, ℕ, ◌+◌, List, ◌∷◌, ◌++◌, length, slice_index}
use Rattle.rb_script.specs.Lines.{Line}
use Rattle.rb_script.specs.Script.{PlainBlock}
use Rattle.rb_script.specs.Reads.{ReadsBlock, ReadsSome}

-- The lines are those of the blocks before, then the lead lines of this block, and then, from line n on, its head and
-- what follows. The first of the lines has the number first.
pub record IsHeadLine (first : ℕ) (ls : List Line) (before : List PlainBlock) (b : PlainBlock) (n : ℕ) : Type 0 where
  pub front : List Line
  pub from : List Line
  pub rest : List Line
  pub parts : ls ≡ front ++ (b.lead ++ from)
  pub front_is : ReadsSome ls before (b.lead ++ from)
  pub block : ReadsBlock (b.lead ++ from) b rest
  pub number : n ≡ first + length front + length b.lead

-- the numbers are those of the lines of these blocks' heads, one a block
pub record AreHeadLines (first : ℕ) (ls : List Line) (blocks : List PlainBlock) (ns : List ℕ) : Type 0 where
  pub count : length ns ≡ length blocks
  pub each : (before later : List PlainBlock) (b : PlainBlock) → blocks ≡ before ++ b ∷ later → IsHeadLine first ls before b (slice_index ns (length before))

-- the head is in the lines, its first line on line n
pub record StandsOn (ls head : List Line) (n : ℕ) : Type 0 where
  pub above : List Line
  pub below : List Line
  pub parts : ls ≡ above ++ (head ++ below)
  pub number : n ≡ 1 + length above
