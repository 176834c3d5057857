-- What is answered of the script in a file, or on standard input. (This project's.)
use Rattle.std.specs.Prelude.{◌≡◌, ℕ, ◌⊎◌, true, false, List, Option, Result, Ok, Err, IfSome, IsErrAnd, codes}
use Rattle.std.specs.Str.{bytes_eq}
use Rattle.rb_text.specs.declared.reading.ReadFault.{ReadFault}
use Rattle.rb_report.specs.declared.check.status.Status.{Status}
use Rattle.rb_bench.specs.Runs.{read_part}
use Rattle.rb_program.specs.declared.program_error.ProgramError.{ProgramError}
use Rattle.rb_program.specs.Refusals.{Explains, IsUnopened, of_reading}

-- if a source's bytes are known, and those that are left then, the result is answered of them
abbrev pub IsOf : (S : Type 0) → (S → Option (List ℕ)) → (List ℕ → Option (List ℕ) → Result Status ProgramError → Type 0) → Result Status ProgramError → Type 0
IsOf S left answers result = (source : S) × (after : S) × IfSome (left source) (λ all. answers all (left after) result)

-- the same result; if input failed, the path may be told as a folder's
abbrev pub IsExplained : List ℕ → Result Status ProgramError → Result Status ProgramError → Type 0
IsExplained file (Ok status) result = result ≡ Ok status
IsExplained file (Err refusal) result = IsErrAnd result (λ told. Explains file refusal told)

-- the file can't be opened, or the result is answered of it
abbrev pub IsOfFile : (F : Type 0) → (F → Option (List ℕ)) → List ℕ → (List ℕ → Option (List ℕ) → Result Status ProgramError → Type 0) → Result Status ProgramError → Type 0
IsOfFile F left file answers result =
    IsErrAnd result (λ refusal. IsUnopened file refusal) ⊎ ((ended : Result Status ProgramError) × IsOf F left answers ended × IsExplained file ended result)

-- what standard input and the files of a runtime have left, if that is known
pub record Sources : Type 1 where
  pub Input : Type 0
  pub File : Type 0
  pub input : Input → Option (List ℕ)
  pub files : File → Option (List ℕ)

abbrev pub sources_of : (I F : Type 0) → (I → Option (List ℕ)) → (F → Option (List ℕ)) → Sources
sources_of I F input files = record { Input = I; File = F; input = input; files = files }

-- the result is answered of standard input where the file is `-`, and else of the file
pub record IsOfScript (sources : Sources) (file : List ℕ) (answers : List ℕ → Option (List ℕ) → Result Status ProgramError → Type 0)
    (result : Result Status ProgramError) : Type 0 where
  pub of_input : bytes_eq file (codes "-") ≡ true → IsOf sources.Input sources.input answers result
  pub of_file : bytes_eq file (codes "-") ≡ false → IsOfFile sources.File sources.files file answers result

-- these are the bytes of a source, up to one more than a script may have
abbrev pub AreRead : (S : Type 0) → (S → Option (List ℕ)) → List ℕ → Type 0
AreRead S left bytes = (source : S) × IfSome (left source) (λ all. bytes ≡ read_part all)

-- input isn't read, or the result is answered of its bytes
abbrev pub IsOfInput : (I : Type 0) → (I → Option (List ℕ)) → (List ℕ → Result Status ProgramError → Type 0) → Result Status ProgramError → Type 0
IsOfInput I left answers result =
    IsErrAnd result (λ refusal. (fault : ReadFault) × (refusal ≡ of_reading fault)) ⊎ ((bytes : List ℕ) × AreRead I left bytes × answers bytes result)

-- why a file isn't read
abbrev pub IsUnreadFile : List ℕ → ProgramError → Type 0
IsUnreadFile file refusal = IsUnopened file refusal ⊎ ((fault : ReadFault) × Explains file (of_reading fault) refusal)

-- the file isn't read, or the result is answered of its bytes
abbrev pub IsOfBytes : (F : Type 0) → (F → Option (List ℕ)) → List ℕ → (List ℕ → Result Status ProgramError → Type 0) → Result Status ProgramError → Type 0
IsOfBytes F left file answers result = IsErrAnd result (λ refusal. IsUnreadFile file refusal) ⊎ ((bytes : List ℕ) × AreRead F left bytes × answers bytes result)
