-- The diagnostics of a text: of each directive of one fresh run, or of a text that isn't a script. (This project's.)
use Rattle.std.specs.Prelude.{ℕ, suc, ◌+◌, ◌-◌, ◌==◌, nat_lt, Bool, false, ◌&&◌, not, if◌then◌else◌, List, [], ◌∷◌, ◌++◌, codes, length, drop, take, map, slice_get, slice_index_or, Option, Some, None, Result, Ok, Err}
use Rattle.std.specs.List.{list_any}
use Rattle.std.specs.Str.{bytes_eq}
use Rattle.rb_script.specs.declared.fault.ScriptFault.{ScriptFault}
use Rattle.rb_script.specs.Lines.{Line, lines}
use Rattle.rb_script.specs.Script.{PlainBlock, PlainScript}
use Rattle.rb_script.specs.Reads.{begins_rule}
use Rattle.rb_script.specs.Reading.{directive_of, read_of}
use Rattle.rb_replay.specs.Run.{outputs}
use Rattle.rb_replay.specs.Report.{mismatches, same_lines}
use Rattle.rb_report.specs.declared.check.colors.Colors.TheVariants.{Off}
use Rattle.rb_report.specs.Suggestions.{suggested}
use Rattle.rb_report.specs.Hints.{PlainHint, meant, sentence, unknown}
use Rattle.rb_report.specs.Notices.{warning_sentence}
use Rattle.rb_report.specs.Refusals.{sentence as fault_sentence, fault_line}
use Rattle.rb_report.specs.declared.check.table.TheConstants.{MAX_SCRIPT_CELLS}
use Rattle.rb_report.specs.Diffs.{cells_within, parts_within}
use Rattle.rb_report.specs.Folds.{folded_text}
use Rattle.rb_script_report.specs.Checked.{left_next}
use Rattle.rb_lsp.specs.Tables.{feed_start}
use Rattle.rb_lsp.specs.declared.server.stop.Stop.{Stop}
use Rattle.rb_script_report.specs.declared.warning.Warning.{Warning}
use Rattle.rb_script_report.specs.Doubts.{all_warnings}
use Rattle.rb_script_report.specs.Errors.{first_line, is_error, is_unexpected}
use Rattle.rb_editor.specs.declared.actions.diagnostic.DiagnosticKind.{DiagnosticKind}
use Rattle.rb_editor.specs.declared.actions.diagnostic.DiagnosticKind.TheVariants.{Mismatch, LaterMismatch, ErrorOutput, NoScript, Slip, Stopped}
use Rattle.rb_editor.specs.declared.offers.block_lines.BlockLines.{BlockLines}
use Rattle.rb_editor.specs.BlockLines.{block_lines}
use Rattle.rb_editor.specs.Heads.{heads_of}
use Rattle.rb_editor.specs.Came.{actual_output_of, without_end}
use Rattle.rb_editor.specs.Diagnostics.{PlainDiagnostic}

-- the diff that `check` shows if `left` cells are left for the script
abbrev pub diff_message : ℕ → List Line → List Line → List ℕ
diff_message left expected output = without_end (folded_text Off (parts_within left expected output))

-- how many lines the two lists share at the beginning
abbrev pub common_front : List Line → List Line → ℕ
common_front [] ys = 0
common_front (x ∷ xs) [] = 0
common_front (x ∷ xs) (y ∷ ys) = if bytes_eq x y then suc (common_front xs ys) else 0

-- a line after its mark, if there is one
abbrev pub marked_line : List ℕ → Option Line → List ℕ
marked_line mark None = []
marked_line mark (Some line) = mark ++ (line ++ codes "\n")

-- The first lines that differ, after n equal ones. If no line is equal, nothing: the diff then begins with them.
abbrev pub opening : ℕ → List Line → List Line → List ℕ
opening n expected output =
    if n == 0 then [] else marked_line (codes "- ") (slice_get expected n) ++ (marked_line (codes "+ ") (slice_get output n) ++ codes "\n")

-- a hint, on a line of its own
abbrev pub hint_end : PlainHint → List ℕ
hint_end unknown = []
hint_end (meant word) = codes "\ndid you mean \"" ++ (word ++ codes "\"?")
hint_end (sentence text) = codes "\n" ++ text

abbrev pub mismatch_message : ℕ → PlainBlock → List Line → List ℕ
mismatch_message left b output = (opening (common_front b.expected output) b.expected output ++ diff_message left b.expected output) ++ hint_end (suggested (directive_of b))

-- The number, counted from 1, of the first expected line that differs, in a block with these lines. If all expected lines are equal, that of the
-- expectation's last line, or of the block's if the expectation is empty. The double form has two lines after the expectation.
abbrev pub marked_at : List Line → BlockLines → List Line → List Line → ℕ
marked_at ls p expected output = p.end - (length expected - common_front expected output - 1) - (if begins_rule (drop p.below ls) then 2 else 0)

-- the first mismatch, or a later one
abbrev pub mismatch_kind : ℕ → ℕ → DiagnosticKind
mismatch_kind first line = if nat_lt first line then LaterMismatch else Mismatch

-- the diagnostic of a mismatch in a block with these lines, whose head is on this line, if `left` cells are left
abbrev pub mismatch : ℕ → List Line → BlockLines → ℕ → ℕ → PlainBlock → List Line → PlainDiagnostic
mismatch left ls p first line b output =
    record { line = marked_at ls p b.expected output; kind = mismatch_kind first line; message = mismatch_message left b output; came = Some (actual_output_of p output) }

abbrev pub error_output : ℕ → PlainBlock → List Line → PlainDiagnostic
error_output line b output = record { line = line; kind = ErrorOutput; message = first_line output ++ hint_end (suggested (directive_of b)); came = None }

-- The diagnostic of a directive whose head is on a line, if `left` cells are left: a mismatch, or an error that no comment expects. The line of the
-- first mismatch's head is given.
unfoldable pub finding : ℕ → ℕ → List Line → ℕ → PlainBlock → List Line → Option PlainDiagnostic
finding left first ls line b output =
    if same_lines b.expected output then (if is_unexpected ls line output then Some (error_output line b output) else None)
    else Some (mismatch left ls (block_lines ls line b) first line b output)

-- a list with this one in front, if there is one
abbrev pub before : Option PlainDiagnostic → List PlainDiagnostic → List PlainDiagnostic
before None ds = ds
before (Some d) ds = d ∷ ds

-- those of directives in order, by the lines of their heads and their outputs: each has the cells that those before it left
abbrev pub findings : ℕ → ℕ → List Line → List ℕ → List PlainBlock → List (List Line) → List PlainDiagnostic
findings left first ls [] bs os = []
findings left first ls (line ∷ heads) [] os = []
findings left first ls (line ∷ heads) (b ∷ bs) [] = []
findings left first ls (line ∷ heads) (b ∷ bs) (output ∷ os) = before (finding left first ls line b output) [] ++ findings (left_next left b output) first ls heads bs os

-- how many cells it takes to compare the outputs of directives in order: what matches takes none
abbrev pub cells_for : ℕ → List PlainBlock → List (List Line) → ℕ
cells_for left [] os = 0
cells_for left (b ∷ bs) [] = 0
cells_for left (b ∷ bs) (output ∷ os) = (if same_lines b.expected output then 0 else cells_within left b.expected output) + cells_for (left_next left b output) bs os

-- the line of the head at the first of these numbers; 0 if there is none
abbrev pub first_head : List ℕ → List ℕ → ℕ
first_head heads [] = 0
first_head heads (place ∷ places) = slice_index_or heads (place - 1) 0

-- a line that looks like a mistake
abbrev pub slip : Warning → PlainDiagnostic
slip w = record { line = w.line; kind = Slip; message = warning_sentence w.doubt; came = None }

-- the warnings of a script, as `check` has them
abbrev pub slips_of : List ℕ → PlainScript → List Warning
slips_of bytes s = all_warnings (lines bytes) (heads_of bytes s) s.blocks (outputs s)

-- the number is the first of these
abbrev pub stands_first : ℕ → List ℕ → Bool
stands_first place [] = false
stands_first place (p ∷ places) = p == place

-- no directive of the script has one, which is known without the text
abbrev pub is_quiet : PlainScript → Bool
is_quiet s = (length (mismatches s) == 0) && not (list_any is_error (outputs s))

-- the first line, if a fault names none
abbrev pub or_first : Option ℕ → ℕ
or_first None = 1
or_first (Some line) = line

-- the diagnostic of a text that isn't a script, with `check`'s sentence
abbrev pub refused : ScriptFault → PlainDiagnostic
refused fault = record { line = or_first (fault_line fault); kind = NoScript; message = fault_sentence fault; came = None }

-- those of a script, by one run from the empty cluster
abbrev pub of_script : List ℕ → PlainScript → List PlainDiagnostic
of_script bytes s = findings MAX_SCRIPT_CELLS (first_head (heads_of bytes s) (mismatches s)) (lines bytes) (heads_of bytes s) s.blocks (outputs s) ++ map slip (slips_of bytes s)

abbrev pub of_reading : List ℕ → Result PlainScript ScriptFault → List PlainDiagnostic
of_reading bytes (Err fault) = refused fault ∷ []
of_reading bytes (Ok s) = of_script bytes s

unfoldable pub diagnostics_of : List ℕ → List PlainDiagnostic
diagnostics_of bytes = of_reading bytes (read_of bytes)

-- ---- where the run stops

-- the text above a line, which counts from 1
abbrev pub above : ℕ → List ℕ → List ℕ
above line bytes = take (feed_start (line - 1) bytes) bytes

-- the diagnostic that the run stopped at the directive on a line
unfoldable pub stopped : ℕ → PlainDiagnostic
stopped line =
    record { line = line; kind = Stopped; message = codes "the script is not run from here on: an editor waits for 16,000,000 steps; raftbench check runs it all"; came = None }

-- The diagnostics of a text. If its run stopped, those of the text above the stop, and one that says where it stopped.
abbrev pub diagnosed : Option Stop → List ℕ → List PlainDiagnostic
diagnosed None bytes = diagnostics_of bytes
diagnosed (Some stop) bytes = diagnostics_of (above stop.line bytes) ++ stopped stop.line ∷ []
