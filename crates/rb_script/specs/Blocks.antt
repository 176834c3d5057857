-- Reading blocks, from the first line on, with the first fault that is met. (This project's order of faults.)
use Rattle.std.specs.Prelude.{ℕ, zero, suc, ◌-◌, Bool, true, false, if◌then◌else◌, List, [], ◌∷◌, ◌++◌, length, Some, None, Result, Ok, Err}
use Rattle.rb_script.specs.declared.fault.ScriptFault.{ScriptFault}
use Rattle.rb_script.specs.declared.fault.ScriptFault.TheVariants.{NoSeparator, NotClosed, TooManyDirectives}
use Rattle.rb_script.specs.Lines.{Line}
use Rattle.rb_script.specs.Marks.{is_lead, is_input}
use Rattle.rb_script.specs.Script.{PlainBlock, PlainScript}
use Rattle.rb_script.specs.Joined.{joined}
use Rattle.rb_script.specs.Results.{◌>>=◌}
use Rattle.rb_script.specs.Runs.{while_of, after_while, head_of, after_head}
use Rattle.rb_script.specs.Heads.{head_at, few_or}
use Rattle.rb_script.specs.Expectations.{Expectation, expectation_at}

-- The number of a line follows from those from it on: end is the number after the last.
abbrev pub line_number : ℕ → List Line → ℕ
line_number end ls = end - length ls

abbrev pub closed_or : ScriptFault → Expectation → Result (List Line × List Line) ScriptFault
closed_or fault None = Err fault
closed_or fault (Some found) = Ok found

-- the lines after the separator line
abbrev pub after_separator : ScriptFault → List Line → Result (List Line) ScriptFault
after_separator fault [] = Err fault
after_separator fault (line ∷ ls) = Ok ls

-- the lines after a head at line n: the input, the expected lines, and the rest
unfoldable pub below_head : ℕ → ℕ → List Line → Result (List Line × List Line × List Line) ScriptFault
below_head end n ls = do
  after ← after_separator (NoSeparator n) (after_while is_input ls)
  found ← closed_or (NotClosed (line_number end (after_while is_input ls))) (expectation_at after)
  Ok (while_of is_input ls, found.0, found.1)

-- a block whose lead was read, and the lines after it
unfoldable pub block_at : ℕ → List Line → List Line → Result (PlainBlock × List Line) ScriptFault
block_at end lead ls = do
  directive ← few_or (line_number end ls) (head_at (joined (head_of ls)))
  below ← below_head end (line_number end ls) (after_head ls)
  Ok (record { lead = lead; head = head_of ls; input = below.0; expected = below.1 }, below.2)

abbrev pub is_empty : List Line → Bool
is_empty [] = true
is_empty (line ∷ ls) = false

abbrev pub lead_of : List Line → List Line
lead_of ls = while_of is_lead ls

abbrev pub from_head : List Line → List Line
from_head ls = after_while is_lead ls

-- these blocks are before the script
abbrev pub behind : List PlainBlock → PlainScript → PlainScript
behind bs s = record { blocks = bs ++ s.blocks; tail = s.tail }

abbrev pub tail_only : List Line → PlainScript
tail_only ls = record { blocks = []; tail = lead_of ls }

-- the blocks and the tail, if there are at most n blocks
unfoldable pub blocks_at : ℕ → ℕ → List Line → Result PlainScript ScriptFault
blocks_at zero end ls = if is_empty (from_head ls) then Ok (tail_only ls) else Err TooManyDirectives
blocks_at (suc room) end ls =
    if is_empty (from_head ls) then Ok (tail_only ls)
    else (block_at end (lead_of ls) (from_head ls) >>= λ found. blocks_at room end found.1 >>= λ others. Ok (behind (found.0 ∷ []) others))
