-- Lines that look like a slip: directives that are in an expectation or in input, since an empty line or a line ---- is missing, and
-- input that nobody reads. (This project's.)
use Rattle.std.specs.Prelude.{ℕ, zero, suc, ◌+◌, ◌-◌, ◌==◌, Bool, true, false, ◌&&◌, ◌||◌, if◌then◌else◌, List, [], ◌∷◌, ◌++◌, Option, Some, None, Result, Ok, Err, length, slice_index_or}
use Rattle.std.specs.List.{list_any}
use Rattle.std.specs.Str.{bytes_eq}
use Rattle.rb_script.specs.declared.fault.ScriptFault.{ScriptFault}
use Rattle.rb_script.specs.Lines.{Line, text_of}
use Rattle.rb_script.specs.Marks.{is_lead, is_separator, continues, rule}
use Rattle.rb_script.specs.Script.{PlainBlock}
use Rattle.rb_script.specs.Reading.{directive_of, block_of}
use Rattle.rb_text.specs.Words.{words}
use Rattle.rb_directive.specs.declared.name.Name.TheVariants.{ProposeConfChange}
use Rattle.rb_directive.specs.Names.{name_text}
use Rattle.rb_directive.specs.Table.{is_name}
use Rattle.rb_replay.specs.Report.{same_lines}
use Rattle.rb_report.specs.declared.check.warning_kind.WarningKind.{WarningKind}
use Rattle.rb_report.specs.declared.check.warning_kind.WarningKind.TheVariants.{InExpectation, InInput, Unread}
use Rattle.rb_script_report.specs.declared.part.BlockPart.{BlockPart}
use Rattle.rb_script_report.specs.declared.part.BlockPart.TheVariants.{Head, Input, Expected}
use Rattle.rb_script_report.specs.declared.warning.Warning.{Warning}

-- what the line after a line of this part is
abbrev pub next_part : BlockPart → Line → BlockPart
next_part Head line = if continues line then Head else Input
next_part Input line = if is_separator line then Expected else Input
next_part Expected line = Expected

abbrev pub first_of : List Line → Line
first_of [] = []
first_of (word ∷ ws) = word

-- the line's first word is the name of a directive, by the table
abbrev pub begins_with_name : Line → Bool
begins_with_name line = is_name (first_of (words line))

abbrev pub is_read : Result PlainBlock ScriptFault → Bool
is_read (Ok b) = true
is_read (Err fault) = false

-- with a line ---- below it, the line would be a directive
abbrev pub reads_alone : Line → Bool
reads_alone line = is_read (block_of (text_of (line ∷ [] ∷ rule ∷ [])))

abbrev pub looks_like_directive : Line → Bool
looks_like_directive line = begins_with_name line && reads_alone line

-- of input, which the directive takes or not: what looks like a directive, and what nobody reads
abbrev pub input_warning : Bool → Line → Option WarningKind
input_warning takes line =
    if is_separator line || is_lead line then None else (if looks_like_directive line then Some InInput else (if takes then None else Some Unread))

-- of what is expected: what looks like a directive and isn't a line of the output
abbrev pub expected_warning : List Line → Line → Option WarningKind
expected_warning output line =
    if looks_like_directive line then (if list_any (λ came. bytes_eq came line) output then None else Some InExpectation) else None

abbrev pub calls_nothing : WarningKind → Bool
calls_nothing Unread = true
calls_nothing InInput = false
calls_nothing InExpectation = false

-- what is wrong with a line of a block, whose directive gave the output
abbrev pub warning_kind_of : Bool → List Line → BlockPart → Line → Option WarningKind
warning_kind_of takes output Head line = None
warning_kind_of takes output Input line = input_warning takes line
warning_kind_of takes output Expected line = expected_warning output line

abbrev pub one_warning : ℕ → Option WarningKind → List Warning
one_warning n None = []
one_warning n (Some doubt) = record { line = n; doubt = doubt } ∷ []

-- whether the line of a warning that calls it a directive looks like one
abbrev pub is_called_rightly : List Line → Warning → Bool
is_called_rightly ls w = calls_nothing w.doubt || looks_like_directive (slice_index_or ls (w.line - 1) [])

-- the warnings of n lines from an index on, which counts from 0
abbrev pub warnings_from : Bool → List Line → List Line → BlockPart → ℕ → ℕ → List Warning
warnings_from takes output ls part at zero = []
warnings_from takes output ls part at (suc left) =
    one_warning (at + 1) (warning_kind_of takes output part (slice_index_or ls at [])) ++ warnings_from takes output ls (next_part part (slice_index_or ls at [])) (at + 1) left

abbrev pub takes_input : PlainBlock → Bool
takes_input b = bytes_eq (directive_of b).name (name_text ProposeConfChange)

-- the warnings of a block, whose n lines begin at an index: none if it has no input and expects its output
abbrev pub warnings_in : List Line → ℕ → ℕ → PlainBlock → List Line → List Warning
warnings_in ls start count b output = if same_lines b.expected output && length b.input == 0 then [] else warnings_from (takes_input b) output ls Head start count

-- of a block whose head begins on the line, up to the last of its lines
abbrev pub block_warnings : List Line → ℕ → ℕ → PlainBlock → List Line → List Warning
block_warnings ls line last b output = warnings_in ls (line - 1) (last - (line - 1)) b output

-- the line above the next head; if there is none, the last
abbrev pub last_line : List Line → List ℕ → ℕ
last_line ls [] = length ls
last_line ls (line ∷ heads) = line - 1

abbrev pub all_warnings : List Line → List ℕ → List PlainBlock → List (List Line) → List Warning
all_warnings ls [] bs os = []
all_warnings ls (line ∷ heads) [] os = []
all_warnings ls (line ∷ heads) (b ∷ bs) [] = []
all_warnings ls (line ∷ heads) (b ∷ bs) (output ∷ os) = block_warnings ls line (last_line ls heads) b output ++ all_warnings ls heads bs os
