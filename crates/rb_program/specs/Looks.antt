-- What is shown of the cluster after the directive at a line of a script. (This project's.)
use Rattle.std.specs.Prelude.{◌≡◌, ℕ, ◌⊎◌, ◌≤◌, ◌-◌, List, Option, Some, Result, Ok, Err, IsErrAnd, slice_get}
use Rattle.std.specs.declared.io.ErrorKind.{ErrorKind}
use Rattle.rb_script.specs.Lines.{lines}
use Rattle.rb_script.specs.Script.{PlainScript}
use Rattle.rb_script.specs.Reads.{Reads}
use Rattle.rb_script.specs.Reading.{read_of, Refuses}
use Rattle.rb_script.specs.HeadLines.{AreHeadLines}
use Rattle.rb_report.specs.declared.check.status.Status.{Status}
use Rattle.rb_report.specs.declared.check.status.Status.TheVariants as statuses
use Rattle.rb_check.specs.Place.{ArePartedAt}
use Rattle.rb_view.specs.Looks.{looked}
use Rattle.rb_program.specs.declared.look.LookedAt.{LookedAt}
use Rattle.rb_program.specs.declared.program_error.ProgramError.{ProgramError}
use Rattle.rb_program.specs.declared.program_error.ProgramError.TheVariants as refusals
use Rattle.rb_program.specs.Choices.{IsMisplaced, IsPlace, path_and_line}
use Rattle.rb_program.specs.Refusals.{of_kind}
use Rattle.rb_program.specs.Scripts.{IsOfBytes}

-- the last directive whose head is at the line or above it, the line of its head, and the cluster after it
pub record IsSeenAt (heads : List ℕ) (s : PlainScript) (line : ℕ) (seen : LookedAt) : Type 0 where
  pub from_1 : 1 ≤ seen.place
  pub last : ArePartedAt heads line seen.place
  pub head_is : slice_get heads (seen.place - 1) ≡ Some seen.head
  pub lines_are : seen.lines ≡ looked s seen.place

-- the bytes are this script, and its heads begin on these lines
pub record IsWithHeads (bytes : List ℕ) (script : PlainScript) (heads : List ℕ) : Type 0 where
  pub reads : Reads bytes script
  pub heads_are : AreHeadLines 1 (lines bytes) script.blocks heads

-- this is seen at the line of the script that the bytes are
abbrev pub IsSeenIn : List ℕ → ℕ → LookedAt → Type 0
IsSeenIn bytes line seen = (script : PlainScript) × (heads : List ℕ) × IsWithHeads bytes script heads × IsSeenAt heads script line seen

-- the bytes are a script, all of whose heads are below the line
abbrev pub AreAllBelow : List ℕ → ℕ → Type 0
AreAllBelow bytes line = (script : PlainScript) × (heads : List ℕ) × IsWithHeads bytes script heads × ArePartedAt heads line 0

-- the refusal of an error of the system
abbrev pub IsOfSystem : ProgramError → Type 0
IsOfSystem refusal = (kind : ErrorKind) × (refusal ≡ of_kind kind)

-- no directive is at the line, which the word names, or the bytes are no script
abbrev pub IsNoneAt : List ℕ → ℕ → List ℕ → ProgramError → Type 0
IsNoneAt bytes line word (refusals.OwnUsage misuse) = AreAllBelow bytes line × IsPlace word misuse
IsNoneAt bytes line word (refusals.Script fault) = Refuses fault (read_of bytes)
IsNoneAt bytes line word refusal = ⊥

-- why nothing is seen there
abbrev pub IsUnseen : List ℕ → ℕ → List ℕ → ProgramError → Type 0
IsUnseen bytes line word refusal = IsOfSystem refusal ⊎ IsNoneAt bytes line word refusal

-- what is seen at the line was written
abbrev pub IsLooked : List ℕ → ℕ → List ℕ → Result Status ProgramError → Type 0
IsLooked bytes line word (Ok status) = (status ≡ statuses.Matched) × ((seen : LookedAt) × IsSeenIn bytes line seen)
IsLooked bytes line word (Err refusal) = IsUnseen bytes line word refusal

-- the word is FILE:LINE, and what is seen there was written
abbrev pub IsLookAt : (F : Type 0) → (F → Option (List ℕ)) → List ℕ → Result Status ProgramError → Type 0
IsLookAt F files word result =
    IsErrAnd result (λ refusal. IsMisplaced word refusal)
    ⊎ ((path : List ℕ) × (line : ℕ) × (path_and_line word ≡ Some (path, line)) × IsOfBytes F files path (λ bytes ended. IsLooked bytes line word ended) result)
