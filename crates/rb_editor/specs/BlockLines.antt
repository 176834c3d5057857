-- The lines of a script's blocks. (docs/SCRIPTS.md, "A block". Lines count from 0.)
use Rattle.std.specs.Prelude.{ℕ, ◌+◌, ◌-◌, ◌≤◌, ◌<◌, if◌then◌else◌, List, [], ◌∷◌, length, drop, Option, Some, None, Result, Ok, Err}
use Rattle.rb_script.specs.declared.fault.ScriptFault.{ScriptFault}
use Rattle.rb_script.specs.Lines.{Line, lines}
use Rattle.rb_script.specs.Script.{PlainBlock, PlainScript}
use Rattle.rb_script.specs.Reads.{begins_rule}
use Rattle.rb_script.specs.Reading.{read_of}
use Rattle.rb_script.specs.Runs.{head_of}
use Rattle.rb_script.specs.HeadLines.{IsHeadLine}
use Rattle.rb_editor.specs.declared.offers.block_lines.BlockLines.{BlockLines}
use Rattle.rb_editor.specs.declared.offers.block_lines.TheConstants.{DOUBLE_LINES}
use Rattle.rb_editor.specs.Heads.{heads_of}

-- the line after the head that begins on a line
abbrev pub behind_head : List Line → ℕ → ℕ
behind_head ls from = from + length (head_of (drop from ls))

-- how many lines mark the form of an expectation, if it is the double one
abbrev pub mark_lines : List Line → ℕ → ℕ
mark_lines ls below = if begins_rule (drop below ls) then DOUBLE_LINES else 0

abbrev pub counted_lines : ℕ → ℕ → ℕ → ℕ → BlockLines
counted_lines from body below end = record { from = from; body = body; below = below; end = end }

-- of a block that begins on line `from`, whose head ends before line `body`, and whose expectation begins on line `below`
abbrev pub lines_from : List Line → PlainBlock → ℕ → ℕ → ℕ → BlockLines
lines_from ls b from body below = counted_lines from body below (below + length b.expected + mark_lines ls below)

abbrev pub lines_at : List Line → PlainBlock → ℕ → ℕ → BlockLines
lines_at ls b from body = lines_from ls b from body (body + length b.input + 1)

-- of a block whose head begins on line n, which counts from 1
unfoldable pub block_lines : List Line → ℕ → PlainBlock → BlockLines
block_lines ls n b = lines_at ls b (n - 1) (behind_head ls (n - 1))

-- of blocks, with the lines of their heads
abbrev pub all_lines : List Line → List ℕ → List PlainBlock → List BlockLines
all_lines ls [] bs = []
all_lines ls (n ∷ ns) [] = []
all_lines ls (n ∷ ns) (b ∷ bs) = block_lines ls n b ∷ all_lines ls ns bs

-- the block is in the lines, its head on line n
pub record StandsIn (ls : List Line) (n : ℕ) (b : PlainBlock) : Type 0 where
  pub before : List PlainBlock
  pub line : IsHeadLine 1 ls before b n

abbrev pub found : Result PlainScript ScriptFault → Option PlainScript
found (Err fault) = None
found (Ok s) = Some s

-- the script that the bytes are
unfoldable pub script_of : List ℕ → Option PlainScript
script_of bytes = found (read_of bytes)

abbrev pub of_script : List ℕ → Option PlainScript → List BlockLines
of_script bytes None = []
of_script bytes (Some s) = all_lines (lines bytes) (heads_of bytes s) s.blocks

-- the lines of each block of a text; none if it isn't a script
unfoldable pub blocks_of : List ℕ → List BlockLines
blocks_of bytes = of_script bytes (script_of bytes)

-- Each of the blocks begins at line k or later, after the one before; each has a head, a separator below it, and perhaps more, and all end up
-- to line n.
abbrev pub AreApart : ℕ → ℕ → List BlockLines → Type 0
AreApart k n [] = k ≤ n
AreApart k n (b ∷ bs) = (k ≤ b.from) × (b.from < b.body) × (b.body < b.below) × (b.below ≤ b.end) × AreApart b.end n bs
