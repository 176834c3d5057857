-- A script's own bytes with other expectations: only the lines of those that change are replaced. (This project's.)
use Rattle.std.specs.Prelude.{◌≡◌, ℕ, ◌+◌, ◌-◌, ◌≤◌, Bool, ◌||◌, if◌then◌else◌, List, [], ◌∷◌, ◌++◌, length, drop}
use Rattle.rb_script.specs.Lines.{Line, lines}
use Rattle.rb_script.specs.Marks.{rule}
use Rattle.rb_script.specs.Reads.{Reads, begins_rule}
use Rattle.rb_script.specs.Runs.{head_of}
use Rattle.rb_script.specs.Script.{PlainBlock, PlainScript, needs_double, text}
use Rattle.rb_replay.specs.Report.{same_lines}
use Rattle.rb_replay.specs.Run.{outputs}
use Rattle.rb_script_report.specs.declared.accept_options.AcceptOptions.{AcceptOptions}
use Rattle.rb_script_report.specs.declared.layout.Layout.{Layout}
use Rattle.rb_script_report.specs.Accepting.{accepted_of}
use Rattle.rb_script_report.specs.WholeLines.{whole_lines, after_lines, is_ended, last_end, ended, unended, with_ends}

-- how many lines are above the expectation of a block whose head begins on the line: those above the head, one fewer than its line says, those of
-- the head and of the input, and the line ----
abbrev pub lines_above : ℕ → PlainBlock → ℕ
lines_above head b = head + length b.head + length b.input

-- The head of a block begins on the line of these lines: they are many enough for all above its expectation, and for it.
pub record IsAbove (ls : List Line) (head : ℕ) (b : PlainBlock) : Type 0 where
  pub some : 1 ≤ head
  pub head_len : length (head_of (drop (head - 1) ls)) ≡ length b.head
  pub within : lines_above head b ≤ length ls
  pub expected : length b.expected ≤ length ls

-- whether an expectation is in the double form, of bytes that begin with it
abbrev pub is_double : List ℕ → Bool
is_double bytes = begins_rule (lines bytes)

-- how many lines it has
abbrev pub lines_of : Bool → List Line → ℕ
lines_of double expected = if double then length expected + 3 else length expected

-- The lines of another one in its place: the double form stays, and is used if only it can show the lines.
abbrev pub in_form : Bool → List Line → List Line
in_form double expected = if double || needs_double expected then rule ∷ expected ++ rule ∷ rule ∷ [] else expected

-- The bytes up to a line ----, and these lines below it: each ends as that line, or as the one above it if that line has no end.
abbrev pub expecting_below : List ℕ → Bool → List Line → List ℕ
expecting_below above double expected = ended above ++ with_ends (last_end above) (in_form double expected)

-- an expectation below n lines is replaced
abbrev pub replaced : ℕ → List ℕ → List Line → List ℕ
replaced n bytes expected = expecting_below (whole_lines n bytes) (is_double (after_lines n bytes)) expected

-- how many lines it has
abbrev pub lines_below : ℕ → List ℕ → List Line → ℕ
lines_below n bytes expected = lines_of (is_double (after_lines n bytes)) expected

-- Bytes of a script that are below `passed` of its lines, with other expectations for the blocks whose heads begin on the lines `heads`. An
-- expectation that stays is not touched, nor is any line that isn't one of an expectation.
unfoldable pub spliced_from : ℕ → List ℕ → List ℕ → List PlainBlock → List (List Line) → List ℕ
spliced_from passed bytes [] bs es = bytes
spliced_from passed bytes (head ∷ heads) [] es = bytes
spliced_from passed bytes (head ∷ heads) (b ∷ bs) [] = bytes
spliced_from passed bytes (head ∷ heads) (b ∷ bs) (expected ∷ es) =
    if same_lines b.expected expected then spliced_from passed bytes heads bs es
    else (replaced (lines_above head b - passed) bytes expected
    ++ spliced_from (lines_above head b + lines_below (lines_above head b - passed) bytes b.expected)
    (after_lines (lines_below (lines_above head b - passed) bytes b.expected) (after_lines (lines_above head b - passed) bytes)) heads bs es)

-- the last line ends as the text did
abbrev pub ending_as : List ℕ → List ℕ → List ℕ
ending_as bytes made = if is_ended bytes then made else unended made

-- the bytes of a script with other expectations
abbrev pub spliced : List ℕ → List ℕ → List PlainBlock → List (List Line) → List ℕ
spliced bytes heads bs es = ending_as bytes (spliced_from 0 bytes heads bs es)

-- The text that is written of a script: its own bytes, if they read as the script that is meant, and else the canonical text.
abbrev pub IsWritten : List ℕ → PlainScript → List ℕ → Type 0
IsWritten own s made = (Reads own s → made ≡ own) × ((Reads own s → ⊥) → made ≡ text s)

-- the bytes of a script that has this layout in them, with what is accepted of it
abbrev pub accepted_bytes : AcceptOptions → List ℕ → Layout → PlainScript → List ℕ
accepted_bytes wanted bytes layout s = spliced bytes layout.heads.items s.blocks (accepted_of wanted layout.text layout.heads.items s.blocks (outputs s))
