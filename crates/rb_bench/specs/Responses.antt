-- The response of a session to a command, and the session after it. (This project's.)
use Rattle.std.specs.Prelude.{◌≡◌, ℕ, nat_lt, Bool, false, MatchBool, List, [], ◌++◌, length, Option, Some, None, Result, Ok, Err, codes, decimal}
use Rattle.rb_script.specs.declared.limits.TheConstants.{MAX_SCRIPT}
use Rattle.rb_script.specs.declared.fault.ScriptFault.{ScriptFault}
use Rattle.rb_script.specs.declared.fault.EditFault.{EditFault}
use Rattle.rb_script.specs.declared.fault.EditFault.TheVariants.{NoSuchPlace, TooLong, OutOfMemory}
use Rattle.rb_script.specs.declared.edit.Edit.{Edit}
use Rattle.rb_script.specs.declared.edit.Edit.TheVariants as edits
use Rattle.rb_script.specs.Lines.{Line, line_text, text_of}
use Rattle.rb_script.specs.Script.{PlainBlock, PlainScript, text}
use Rattle.rb_script.specs.Reading.{block_of}
use Rattle.rb_script.specs.Edits.{edited}
use Rattle.rb_bench.specs.declared.command.Command.{Command}
use Rattle.rb_bench.specs.declared.command.Command.TheVariants as commands
use Rattle.rb_bench.specs.declared.command.Purpose.{Purpose}
use Rattle.rb_bench.specs.declared.command.Purpose.TheVariants.{Insert, Replace, Expect}
use Rattle.rb_replay.specs.declared.session.Changed.{Changed}
use Rattle.rb_replay.specs.Run.{outputs, output_at}
use Rattle.rb_replay.specs.Report.{report, rewritten}
use Rattle.rb_replay.specs.Holding.{Holding}
use Rattle.rb_replay.specs.After.{IsEdited}
use Rattle.rb_report.specs.Refusals.{fault_line}
use Rattle.rb_bench.specs.Names.{script_name, edit_name}

-- ---- texts

-- the line of a fault, if it has one
abbrev pub at_line : Option ℕ → List ℕ
at_line None = []
at_line (Some n) = codes " at line " ++ decimal n

-- a fault of a block
abbrev pub fault_text : ScriptFault → List ℕ
fault_text fault = script_name fault ++ at_line (fault_line fault)

-- why a command is refused
abbrev pub refused : List ℕ → List ℕ
refused name = line_text (codes "refused " ++ name)

-- the answer to an accepted edit
abbrev pub done : Changed → List ℕ
done changed = line_text (codes "done executed=" ++ decimal changed.executed ++ codes " mismatches=" ++ decimal changed.mismatches)

-- an output, after how many lines it has
abbrev pub output_text : List Line → List ℕ
output_text ls = line_text (codes "output " ++ decimal (length ls)) ++ text_of ls

-- the output at a place, or that there is no such place
abbrev pub shown : Option (List Line) → List ℕ
shown None = refused (edit_name NoSuchPlace)
shown (Some ls) = output_text ls

-- ---- edits

-- the edit with the block that was read
abbrev pub block_edit : (PlainBlock → Edit) → Result PlainBlock ScriptFault → Result Edit ScriptFault
block_edit f (Ok b) = Ok (f b)
block_edit f (Err fault) = Err fault

-- the edit that a command asks for with its lines, which are one block or an expectation
unfoldable pub edit_of : Purpose → ℕ → List Line → Result Edit ScriptFault
edit_of Insert place given = block_edit (λ b. edits.Insert place b) (block_of (text_of given))
edit_of Replace place given = block_edit (λ b. edits.Replace place b) (block_of (text_of given))
edit_of Expect place given = Ok (edits.Expect place given)

-- this is the answer, and the session stays
abbrev pub Says : List ℕ → Holding → List ℕ → Holding → Type 0
Says said h answer after = (answer ≡ said) × (after ≡ h)

-- the edit is made: the answer is what it executed and the number of mismatches
pub record IsDone (h : Holding) (edit : Edit) (answer : List ℕ) (after : Holding) : Type 0 where
  pub changed : Changed
  pub edited_is : IsEdited h edit changed after
  pub answer_is : answer ≡ done changed

-- An edit of the script is refused for its fault, or for want of memory, or it is made.
abbrev pub AnswersMade : Holding → Edit → Result PlainScript EditFault → Bool → List ℕ → Holding → Type 0
AnswersMade h edit (Err fault) no_memory answer after = Says (refused (edit_name fault)) h answer after
AnswersMade h edit (Ok new) no_memory answer after =
    MatchBool no_memory (Says (refused (edit_name OutOfMemory)) h answer after) (IsDone h edit answer after)

abbrev pub AnswersEdit : Holding → Edit → Bool → List ℕ → Holding → Type 0
AnswersEdit h edit no_memory answer after = AnswersMade h edit (edited h.script edit (outputs h.script)) no_memory answer after

-- The fault of a block comes before that of an edit.
abbrev pub AnswersBlock : Holding → Result Edit ScriptFault → List ℕ → Holding → Type 0
AnswersBlock h (Err fault) answer after = Says (refused (fault_text fault)) h answer after
AnswersBlock h (Ok edit) answer after = AnswersEdit h edit false answer after

-- More given bytes than a script may have, one LF a line, are found before anything else.
abbrev pub AnswersGiven : Holding → Purpose → ℕ → List Line → Bool → List ℕ → Holding → Type 0
AnswersGiven h purpose place given no_memory answer after =
    MatchBool (nat_lt MAX_SCRIPT (length (text_of given))) (Says (refused (edit_name TooLong)) h answer after)
    (MatchBool no_memory (Says (refused (edit_name OutOfMemory)) h answer after) (AnswersBlock h (edit_of purpose place given) answer after))

-- ---- commands

-- A command with the lines that were given to it, and whether memory refused it.
abbrev pub AnswersCommand : Holding → Command → List Line → Bool → List ℕ → Holding → Type 0
AnswersCommand h commands.Blank given no_memory answer after = Says [] h answer after
AnswersCommand h commands.Bad given no_memory answer after = Says (refused (codes "BadCommand")) h answer after
AnswersCommand h (commands.Given purpose place count) given no_memory answer after = AnswersGiven h purpose place given no_memory answer after
AnswersCommand h (commands.Remove place) given no_memory answer after = AnswersEdit h (edits.Remove place) no_memory answer after
AnswersCommand h commands.Accept given no_memory answer after = AnswersEdit h edits.Accept no_memory answer after
AnswersCommand h (commands.Show place) given no_memory answer after = Says (shown (output_at h.script place)) h answer after
AnswersCommand h commands.Report given no_memory answer after = Says (report h.script) h answer after
AnswersCommand h commands.Script given no_memory answer after = Says (text h.script) h answer after
AnswersCommand h commands.Rewrite given no_memory answer after = Says (rewritten h.script) h answer after
