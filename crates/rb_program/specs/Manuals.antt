-- What `raftbench directives` shows. (This project's.)
use Rattle.std.specs.Prelude.{◌≡◌, ℕ, ◌⊎◌, List, Option, Some, None, Result, Ok, Err, IsErrAnd, unwrap_or}
use Rattle.std.specs.Io.KnownBytes.{Appends, Keeps}
use Rattle.rb_script.specs.Writes.{AppendsFront}
use Rattle.rb_report.specs.Manual.{manual_text, page_in, pages}
use Rattle.rb_report.specs.declared.check.status.Status.{Status}
use Rattle.rb_report.specs.declared.check.status.Status.TheVariants as statuses
use Rattle.rb_program.specs.declared.program_error.ProgramError.{ProgramError}
use Rattle.rb_program.specs.declared.program_error.ProgramError.TheVariants as refusals
use Rattle.rb_program.specs.Choices.{IsUnknown}
use Rattle.rb_program.specs.Looks.{IsOfSystem}

-- the page, or the overview if there is none
abbrev pub shown_pages : Option (List ℕ) → List ℕ
shown_pages page = unwrap_or page manual_text

-- the page that the name asks for; none, if no name is given
abbrev pub IsPageAsked : Option (List ℕ) → Option (List ℕ) → Type 0
IsPageAsked None page = page ≡ None
IsPageAsked (Some name) page = (page ≡ page_in pages name) × ((text : List ℕ) × (page ≡ Some text))

-- no directive has the name, and nothing is written
abbrev pub IsUnnamed : Option (List ℕ) → ProgramError → Type 0
IsUnnamed None refusal = ⊥
IsUnnamed (Some name) refusal = IsUnknown name refusal

-- The answer to a name: its page or the overview was written; or no directive has the name, and nothing was; or output failed, and a beginning was.
abbrev pub AnswersName : Option (List ℕ) → Result Status ProgramError → Option (List ℕ) → Option (List ℕ) → Type 0
AnswersName name (Ok status) old new = (status ≡ statuses.Matched) × ((page : Option (List ℕ)) × IsPageAsked name page × Appends old new (shown_pages page))
AnswersName name (Err refusal) old new =
    (IsUnnamed name refusal × Keeps old new) ⊎ ((refusal ≡ refusals.Io) × ((page : Option (List ℕ)) × IsPageAsked name page × AppendsFront old new (shown_pages page)))

-- the answer over standard output, if there is memory for it
abbrev pub ShowsDirectives : Option (List ℕ) → Result Status ProgramError → Type 0
ShowsDirectives name result = IsErrAnd result (λ refusal. IsOfSystem refusal) ⊎ ((old : Option (List ℕ)) × (new : Option (List ℕ)) × AnswersName name result old new)
