-- Why nothing of a script is accepted. (This project's.)
use Rattle.std.specs.Prelude.{◌≡◌, ℕ, nat_lt, ◌<◌, Bool, if◌then◌else◌, List, [], ◌∷◌, length, Err}
use Rattle.std.specs.List.{list_any}
use Rattle.rb_script.specs.declared.edit.Edit.TheVariants.{Accept}
use Rattle.rb_script.specs.declared.fault.EditFault.TheVariants.{BadExpectation}
use Rattle.rb_script.specs.declared.limits.TheConstants.{MAX_LINE, MAX_SCRIPT}
use Rattle.rb_script.specs.Lines.{Line}
use Rattle.rb_script.specs.Script.{PlainScript, text, with_outputs}
use Rattle.rb_script.specs.Edits.{edited}
use Rattle.rb_script_report.specs.declared.written.AcceptFault.{AcceptFault}
use Rattle.rb_script_report.specs.declared.written.AcceptFault.TheVariants.{BadOutput, TooLong, OutOfMemory}

-- a line is longer than one of a script may be
abbrev pub has_long_line : List Line → Bool
has_long_line ls = list_any (λ line. nat_lt MAX_LINE (length line)) ls

-- the line of the first head whose expectation has such a line; 0 where none has
abbrev pub bad_head : List ℕ → List (List Line) → ℕ
bad_head [] os = 0
bad_head (line ∷ heads) [] = 0
bad_head (line ∷ heads) (o ∷ os) = if has_long_line o then line else bad_head heads os

-- What a refusal says of a script with these expectations: its text would be too long, or one of them can't be expected, and that is the line.
abbrev pub TellsAcceptFault : AcceptFault → List ℕ → PlainScript → List (List Line) → Type 0
TellsAcceptFault (BadOutput line) heads s os = (edited s Accept os ≡ Err BadExpectation) × (line ≡ bad_head heads os)
TellsAcceptFault TooLong heads s os = MAX_SCRIPT < length (text (with_outputs s os))
TellsAcceptFault OutOfMemory heads s os = Unit {0}
