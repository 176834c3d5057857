-- Reading bytes: the lengths, then the blocks, then the canonical text, with the first fault that is met. (This
-- project's order of faults.)
use Rattle.std.specs.Prelude.{ℕ, min, option_map, ◌+◌, nat_lt, if◌then◌else◌, List, [], ◌∷◌, length, Option, Some, None, Result, Ok, Err}
use Rattle.rb_script.specs.declared.fault.ScriptFault.{ScriptFault}
use Rattle.rb_script.specs.declared.fault.ScriptFault.TheVariants.{TooLong, LineTooLong, NotOneBlock}
use Rattle.rb_script.specs.declared.limits.TheConstants.{MAX_SCRIPT, MAX_LINE, MAX_DIRECTIVES}
use Rattle.rb_script.specs.Lines.{Line, lines}
use Rattle.rb_script.specs.Script.{PlainBlock, PlainScript, text}
use Rattle.rb_script.specs.Results.{◌>>=◌}
pub use Rattle.rb_script.specs.Results.{Fails, Gives, Refuses}
unfoldable pub use Rattle.rb_script.specs.Heads.{directive_of}
use Rattle.rb_script.specs.Blocks.{blocks_at}

-- the number of the first line that is too long
unfoldable pub long_line : ℕ → List Line → Option ℕ
long_line n [] = None
long_line n (line ∷ ls) = if nat_lt MAX_LINE (length line) then Some n else long_line (n + 1) ls

abbrev pub no_long_line : Option ℕ → Result (Unit {0}) ScriptFault
no_long_line None = Ok tt
no_long_line (Some n) = Err (LineTooLong n)

-- the greatest value of a usize
abbrev pub usize_max : ℕ
usize_max = 18446744073709551615

-- a length as a usize that stops at its greatest value
abbrev pub capped : ℕ → ℕ
capped n = min n usize_max

-- the blocks and the tail of bytes and lines that are short enough
unfoldable pub parts_of : List ℕ → Result PlainScript ScriptFault
parts_of bytes =
    if nat_lt MAX_SCRIPT (length bytes) then Err TooLong
    else (no_long_line (long_line 1 (lines bytes)) >>= λ _. blocks_at MAX_DIRECTIVES (1 + length (lines bytes)) (lines bytes))

unfoldable pub fits_text : PlainScript → Result PlainScript ScriptFault
fits_text s = if nat_lt MAX_SCRIPT (length (text s)) then Err TooLong else Ok s

unfoldable pub read_of : List ℕ → Result PlainScript ScriptFault
read_of bytes = parts_of bytes >>= λ s. fits_text s

-- the block, if there are no others and no line after it
abbrev pub only_block : List PlainBlock → List Line → Result PlainBlock ScriptFault
only_block (b ∷ []) [] = Ok b
only_block bs tail = Err NotOneBlock

-- the same, where its canonical text is short enough
abbrev pub one_of : PlainScript → Result PlainBlock ScriptFault
one_of s = only_block s.blocks s.tail >>= λ b. fits_text s >>= λ _. Ok b

-- whether the parts are one block
abbrev pub is_one : PlainScript → Result (Unit {0}) ScriptFault
is_one s = one_of s >>= λ _. Ok tt

-- the one block of the bytes
unfoldable pub block_of : List ℕ → Result PlainBlock ScriptFault
block_of bytes = do
  s ← parts_of bytes
  b ← only_block s.blocks s.tail
  fitting ← fits_text s
  Ok b

-- what is found before any growth
abbrev pub early_fault : List ℕ → Option ScriptFault
early_fault bytes = if nat_lt MAX_SCRIPT (length bytes) then Some TooLong else option_map (λ n. LineTooLong n) (long_line 1 (lines bytes))
