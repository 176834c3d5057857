-- What is said of a script that was written with its outputs. (This project's.)
use Rattle.std.specs.Prelude.{◌≡◌, ℕ, if◌then◌else◌, List, [], ◌++◌, Result, Ok, Err}
use Rattle.std.specs.List.{flat_map}
use Rattle.rb_script.specs.Lines.{Line}
use Rattle.rb_script.specs.Script.{PlainBlock, PlainScript}
use Rattle.rb_script.specs.Reading.{directive_of}
use Rattle.rb_bench.specs.declared.fault.BenchFault.{BenchFault}
use Rattle.rb_report.specs.declared.check.status.Status.{Status}
use Rattle.rb_report.specs.Headings.{note_text}
use Rattle.rb_report.specs.Hints.{hint_text}
use Rattle.rb_report.specs.Notices.{warning_text}
use Rattle.rb_report.specs.Suggestions.{suggested}
use Rattle.rb_check.specs.Visible.{showing_of_lines, text_shown}
use Rattle.rb_program.specs.declared.rewriting.Rewritten.{Rewritten}
use Rattle.rb_replay.specs.Run.{outputs}
use Rattle.rb_script_report.specs.declared.layout.Layout.{Layout}
use Rattle.rb_script_report.specs.declared.warning.Warning.{Warning}
use Rattle.rb_script_report.specs.Checked.{head_of, of_each}
use Rattle.rb_script_report.specs.Doubts.{all_warnings}
use Rattle.rb_script_report.specs.Errors.{first_line, is_unexpected}
use Rattle.rb_script_report.specs.Layouts.{IsLayout}

-- the status of a script that is written with its outputs, whatever is noted on it
abbrev pub status_of_rewriting : Result Rewritten BenchFault → Result Status BenchFault
status_of_rewriting (Ok rewritten) = Ok rewritten.status
status_of_rewriting (Err fault) = Err fault

-- a directive whose output is an error, which the script, of these lines, doesn't say is expected
abbrev pub error_noted : List Line → List ℕ → ℕ → PlainBlock → List Line → List ℕ
error_noted ls path line b output = if is_unexpected ls line output then note_text path line (head_of b) (first_line output) (hint_text (suggested (directive_of b))) else []

-- all of these, by the lines of their heads
abbrev pub errors_noted : List Line → List ℕ → List ℕ → List PlainBlock → List (List Line) → List ℕ
errors_noted ls path heads bs os = of_each (λ line b output. error_noted ls path line b output) heads bs os

-- the lines that look like a slip
abbrev pub warnings_noted : List ℕ → List Warning → List ℕ
warnings_noted path ws = flat_map (λ (w : Warning). warning_text path w.line w.doubt) ws

-- both, of a script with this layout
abbrev pub notes_text : List ℕ → Layout → PlainScript → List ℕ
notes_text path l s = warnings_noted path (all_warnings l.text l.heads.items s.blocks (outputs s)) ++ errors_noted l.text path l.heads.items s.blocks (outputs s)

-- they as they go out: if a byte of the script acts, bytes by their numbers
abbrev pub notes_shown : List ℕ → Layout → PlainScript → List ℕ
notes_shown path l s = text_shown (showing_of_lines l.text) (notes_text path l s)

-- the notes on the script that the bytes are
pub record AreNotes (path bytes notes : List ℕ) : Type 0 where
  pub script : PlainScript
  pub layout : Layout
  pub layout_is : IsLayout bytes script layout
  pub notes_are : notes ≡ notes_shown path layout script
