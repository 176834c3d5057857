-- What an edit makes of a script: plain edits of its list of blocks. Places count from 1. (This project's.)
use Rattle.std.specs.Prelude.{◌≡◌, ℕ, ◌+◌, ◌-◌, Bool, false, ◌&&◌, ◌||◌, ◌==◌, not, nat_lt, nat_le, if◌then◌else◌, List, [], ◌∷◌, length, insert, remove, slice_set, slice_index_or, Result, Ok, Err, IfErr}
use Rattle.std.specs.List.{list_all}
use Rattle.rb_script.specs.declared.fault.EditFault.{EditFault}
use Rattle.rb_script.specs.declared.fault.EditFault.TheVariants.{NoSuchPlace, BadExpectation, TooManyDirectives, TooLong, OutOfMemory}
use Rattle.rb_script.specs.declared.edit.Edit.{Edit}
use Rattle.rb_script.specs.declared.edit.Edit.TheVariants.{Insert, Replace, Remove, Expect, Accept}
use Rattle.rb_script.specs.declared.limits.TheConstants.{MAX_SCRIPT, MAX_LINE, MAX_DIRECTIVES}
use Rattle.rb_script.specs.Bytes.{line_feed, carriage_return}
use Rattle.rb_script.specs.Lines.{Line}
use Rattle.rb_script.specs.Script.{PlainBlock, PlainScript, text, expecting, with_outputs}
use Rattle.rb_script.specs.Reads.{is_readable}

abbrev pub ends_in_return : Line → Bool
ends_in_return [] = false
ends_in_return (b ∷ []) = b == carriage_return
ends_in_return (b ∷ c ∷ line) = ends_in_return (c ∷ line)

-- a line that can be in a script: the test of Valid.IsLine
abbrev pub is_text_line : Line → Bool
is_text_line line = list_all (λ b. not (b == line_feed)) line && (not (ends_in_return line) && nat_le (length line) MAX_LINE)

-- lines that can be an expectation
abbrev pub is_expectation : List Line → Bool
is_expectation ls = is_readable ls && list_all is_text_line ls

-- the fault if the test passes, else the result
abbrev pub unless : Bool → EditFault → Result PlainScript EditFault → Result PlainScript EditFault
unless test fault made = if test then Err fault else made

abbrev pub fitting : PlainScript → Result PlainScript EditFault
fitting s = unless (nat_lt MAX_SCRIPT (length (text s))) TooLong (Ok s)

abbrev pub with_blocks : PlainScript → List PlainBlock → PlainScript
with_blocks s bs = record { blocks = bs; tail = s.tail }

-- there is no directive at place k of n
abbrev pub is_no_place : ℕ → ℕ → Bool
is_no_place k n = k == 0 || nat_lt n k

-- the block at a place
abbrev pub block_at_place : List PlainBlock → ℕ → PlainBlock
block_at_place bs k = slice_index_or bs (k - 1) (record { lead = []; head = []; input = []; expected = [] })

-- The script that the edit makes, or the first fault.
unfoldable pub edited : PlainScript → Edit → List (List Line) → Result PlainScript EditFault
edited s (Insert k block) outputs =
    unless (is_no_place k (length s.blocks + 1)) NoSuchPlace (unless (nat_le MAX_DIRECTIVES (length s.blocks)) TooManyDirectives (fitting (with_blocks s (insert s.blocks (k - 1) block))))
edited s (Replace k block) outputs = unless (is_no_place k (length s.blocks)) NoSuchPlace (fitting (with_blocks s (slice_set s.blocks (k - 1) block)))
edited s (Remove k) outputs = unless (is_no_place k (length s.blocks)) NoSuchPlace (Ok (with_blocks s (remove s.blocks (k - 1))))
edited s (Expect k lines) outputs =
    unless (is_no_place k (length s.blocks)) NoSuchPlace
    (unless (not (is_expectation lines)) BadExpectation (fitting (with_blocks s (slice_set s.blocks (k - 1) (expecting (block_at_place s.blocks k) lines)))))
edited s Accept outputs = unless (not (list_all is_expectation outputs)) BadExpectation (fitting (with_outputs s outputs))

-- the edit is refused for this fault, or memory ran out
abbrev pub EditFails : EditFault → Result PlainScript EditFault → Type 0
EditFails OutOfMemory made = Unit {0}
EditFails fault made = made ≡ Err fault

-- a function's result is that of the edit, unless memory ran out
abbrev pub Makes : Result PlainScript EditFault → Result PlainScript EditFault → Type 0
Makes (Ok s) made = made ≡ Ok s
Makes (Err e) made = EditFails e made

-- a function's result settles an edit: it is the edit's result, and a fault of the edit is returned as it is
pub record Settles (r made : Result PlainScript EditFault) : Type 0 where
  pub exact : Makes r made
  pub early : IfErr made (λ fault. r ≡ Err fault)
