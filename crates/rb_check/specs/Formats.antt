-- What `check` writes of a script for programs. (This project's.)
use Rattle.std.specs.Prelude.{ℕ, ◌-◌, Bool, if◌then◌else◌, List, [], ◌++◌, Option, None, Some, codes, length, slice_get}
use Rattle.std.specs.List.{flat_map}
use Rattle.rb_script.specs.Lines.{Line}
use Rattle.rb_replay.specs.Report.{same_lines, mismatches}
use Rattle.rb_report.specs.declared.check.table.TheConstants.{MAX_SCRIPT_CELLS}
use Rattle.rb_script_report.specs.Checked.{head_of, of_first}
use Rattle.rb_script_report.specs.Errors.{first_line, is_unexpected}
use Rattle.rb_check.specs.declared.format.Format.{Format}
use Rattle.rb_check.specs.declared.format.Format.TheVariants.{Json, Github, Junit}
use Rattle.rb_check.specs.declared.kind.NoticeKind.{NoticeKind}
use Rattle.rb_check.specs.declared.kind.NoticeKind.TheVariants as kinds
use Rattle.rb_check.specs.Objects.{object_text, notice_object}
use Rattle.rb_check.specs.Commands.{command_text, difference_text}
use Rattle.rb_check.specs.Junit.{script_suite, notice_suite}
use Rattle.rb_check.specs.Subjects.{PlainChecked, PlainRan, runs_of}

-- ---- JSON: its directives in order

-- a directive that expects other lines than its output, or an error that isn't said to be expected
abbrev pub directive_object : List Line → List ℕ → PlainRan → List ℕ
directive_object ls path d =
    if same_lines d.block.expected d.output
    then (if is_unexpected ls d.line d.output then object_text path (codes "error") d else [])
    else object_text path (codes "mismatch") d

abbrev pub objects_of : PlainChecked → List ℕ
objects_of c = flat_map (directive_object c.layout.text c.path) (runs_of c)

-- ---- GitHub, which shows ten annotations of a step: the first mismatch, with how many others there are, and the new errors

-- whether it is shown as what fails, or as a warning
abbrev pub severity : Bool → List ℕ
severity strict = if strict then codes "error" else codes "warning"

-- a directive that expects other lines, with how many others do
abbrev pub differing_command : List ℕ → ℕ → PlainRan → List ℕ
differing_command path others d = difference_text MAX_SCRIPT_CELLS path d.line (head_of d.block) d.block.expected d.output d.why others

abbrev pub command_if : List ℕ → ℕ → Option PlainRan → List ℕ
command_if path others None = []
command_if path others (Some d) = differing_command path others d

-- the mismatch at a place
abbrev pub mismatch_command : PlainChecked → ℕ → List ℕ
mismatch_command c k = command_if c.path (length (mismatches c.script) - 1) (slice_get (runs_of c) (k - 1))

-- a directive that expects its output, an error that isn't said to be expected
abbrev pub error_command : Bool → List Line → List ℕ → PlainRan → List ℕ
error_command strict ls path d =
    if same_lines d.block.expected d.output
    then (if is_unexpected ls d.line d.output then command_text (severity strict) path (Some d.line) (head_of d.block) (first_line d.output) else [])
    else []

abbrev pub errors_of : Bool → PlainChecked → List ℕ
errors_of strict c = flat_map (error_command strict c.layout.text c.path) (runs_of c)

-- ---- a script

abbrev pub script_text : Format → Bool → PlainChecked → List ℕ
script_text Json strict c = objects_of c
script_text Github strict c = of_first (mismatch_command c) (mismatches c.script) ++ errors_of strict c
script_text Junit strict c = script_suite strict c

-- ---- notices about a script

abbrev pub status_of : NoticeKind → List ℕ
status_of kinds.Refused = codes "refused"
status_of kinds.Failed = codes "failed"
status_of kinds.Warning = codes "warning"
status_of kinds.Left = codes "left"
status_of kinds.Accepted = codes "accepted"

abbrev pub command_of : Bool → NoticeKind → List ℕ
command_of strict kinds.Refused = codes "error"
command_of strict kinds.Failed = codes "error"
command_of strict kinds.Warning = severity strict
command_of strict kinds.Left = codes "warning"
command_of strict kinds.Accepted = codes "notice"

abbrev pub notice_text : Format → Bool → List ℕ → Option ℕ → NoticeKind → List ℕ → List ℕ
notice_text Json strict path line kind message = notice_object path line (status_of kind) message
notice_text Github strict path line kind message = command_text (command_of strict kind) path line (codes "raftbench") message
notice_text Junit strict path line kind message = notice_suite path line kind message
