-- What is told of a list of diagnostics: their diffs and actual outputs, as far as they have room. (The bounds are this project's.)
use Rattle.std.specs.Prelude.{ℕ, ◌+◌, ◌-◌, min, nat_le, if◌then◌else◌, List, [], ◌∷◌, ◌++◌, codes, length, take, Option, Some, None}
use Rattle.rb_editor.specs.declared.actions.told.TheConstants.{MAX_DIFF}
use Rattle.rb_editor.specs.Above.{line_begin}
use Rattle.rb_editor.specs.Diagnostics.{PlainActualOutput, PlainDiagnostic}

unfoldable pub more_text : List ℕ
more_text = codes "raftbench check shows the whole diff"

-- how many bytes a message has, or an actual output, if so many are left for all
abbrev pub room : ℕ → ℕ
room left = min left MAX_DIFF

-- a message in so many bytes: all of it, or its first lines
abbrev pub cut : ℕ → List ℕ → List ℕ
cut most message = if nat_le (length message) most then message else take (line_begin most message) message ++ more_text

-- the message of a mismatch; others are short
abbrev pub told_message : ℕ → List ℕ → Option PlainActualOutput → List ℕ
told_message left message None = message
told_message left message (Some c) = cut (room left) message

-- how many bytes are left behind it
abbrev pub left_after : ℕ → List ℕ → ℕ
left_after left message = left - length (cut (room left) message)

-- the actual output of a mismatch, if it has room there
abbrev pub told_came : ℕ → List ℕ → Option PlainActualOutput → Option PlainActualOutput
told_came left message None = None
told_came left message (Some c) = if nat_le (length c.shown) (room (left_after left message)) then Some c else None

-- what is told of a diagnostic
abbrev pub told : ℕ → PlainDiagnostic → PlainDiagnostic
told left d = record { line = d.line; kind = d.kind; message = told_message left d.message d.came; came = told_came left d.message d.came }

abbrev pub came_bytes : Option PlainActualOutput → ℕ
came_bytes None = 0
came_bytes (Some c) = length c.shown

abbrev pub left_by : ℕ → List ℕ → Option PlainActualOutput → ℕ
left_by left message None = left
left_by left message (Some c) = left_after left message - came_bytes (told_came left message (Some c))

-- how many bytes are left for the diagnostics after it
abbrev pub left_behind : ℕ → PlainDiagnostic → ℕ
left_behind left d = left_by left d.message d.came

-- of diagnostics one after another
abbrev pub all_told : ℕ → List PlainDiagnostic → List PlainDiagnostic
all_told left [] = []
all_told left (d ∷ ds) = told left d ∷ all_told (left_behind left d) ds

-- ---- how much that is

-- how many bytes are told of a mismatch: its message and its actual output
abbrev pub mismatch_bytes : ℕ → List ℕ → Option PlainActualOutput → ℕ
mismatch_bytes left message None = 0
mismatch_bytes left message (Some c) = length (cut (room left) message) + came_bytes (told_came left message (Some c))

abbrev pub diff_bytes : ℕ → List PlainDiagnostic → ℕ
diff_bytes left [] = 0
diff_bytes left (d ∷ ds) = mismatch_bytes left d.message d.came + diff_bytes (left_behind left d) ds
