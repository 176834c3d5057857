-- On which lines of a script the heads of its directives begin, by reading its blocks one after another. (docs/SCRIPTS.md. Lines
-- count from 1. HeadLaws.heads_are says that they are those of rb_script's HeadLines.)
use Rattle.std.specs.Prelude.{ℕ, ◌+◌, List, [], ◌∷◌, length, Result, Ok, Err}
use Rattle.rb_script.specs.declared.fault.ScriptFault.{ScriptFault}
use Rattle.rb_script.specs.Lines.{Line, lines}
use Rattle.rb_script.specs.Script.{PlainBlock, PlainScript}
use Rattle.rb_script.specs.Blocks.{block_at, from_head, lead_of, line_number}

-- the lines after a block that was read
abbrev pub behind_block : Result (PlainBlock × List Line) ScriptFault → List Line
behind_block (Err fault) = []
behind_block (Ok found) = found.1

-- of the blocks that these lines are; end is the number after the last line
unfoldable pub heads_at : ℕ → List PlainBlock → List Line → List ℕ
heads_at end [] ls = []
heads_at end (b ∷ bs) ls = line_number end (from_head ls) ∷ heads_at end bs (behind_block (block_at end (lead_of ls) (from_head ls)))

-- of the script that the bytes are
abbrev pub heads_of : List ℕ → PlainScript → List ℕ
heads_of bytes s = heads_at (1 + length (lines bytes)) s.blocks (lines bytes)
