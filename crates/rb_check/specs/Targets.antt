-- Which directives of a script the targets of a check name. (This project's.)
use Rattle.std.specs.Prelude.{◌≡◌, ◌≢◌, ℕ, Bool, true, false, if◌then◌else◌, List, [], ◌∷◌, ◌++◌, Option, None, Some, slice_get, string_bytes}
use Rattle.std.specs.List.Sorted.{IsNonDecreasing}
use Rattle.rb_files.specs.declared.path_error.PathError.{PathError}
use Rattle.rb_report.specs.declared.check.failure.Failure.{Failure}
use Rattle.rb_report.specs.declared.check.failure.Failure.TheVariants.{NoDirective, NotWritten, OutOfMemory}
use Rattle.rb_check.specs.declared.target.Target.{Target}
use Rattle.rb_check.specs.Place.{ArePartedAt}

-- whether the target is the script at the path: it is if it is spelled so, and else as the system tells of both paths
pub record IsOfScript (tells : List ℕ → List ℕ → Bool → Type 0) (path : List ℕ) (target : Target) (is : Bool) : Type 0 where
  pub spelled : string_bytes target.path ≡ path → is ≡ true
  pub otherwise : string_bytes target.path ≢ path → tells (string_bytes target.path) path is

-- its line, if it is the script
pub data AddsLine (tells : List ℕ → List ℕ → Bool → Type 0) (path : List ℕ) (target : Target) (added : List ℕ) : Type 0 where
  another : IsOfScript tells path target false → added ≡ [] → AddsLine tells path target added
  one : (line : ℕ) → IsOfScript tells path target true → target.line ≡ Some line → added ≡ line ∷ [] → AddsLine tells path target added

-- the lines of those that are the script, one after another
unfoldable pub AreLines : (List ℕ → List ℕ → Bool → Type 0) → List ℕ → List Target → List ℕ → Type 0
AreLines tells path [] lines = lines ≡ []
AreLines tells path (target ∷ targets) lines = (added : List ℕ) × (rest : List ℕ) × (lines ≡ added ++ rest) × AddsLine tells path target added × AreLines tells path targets rest

-- the lines that are named: none if a target is the script without a line, or if no target is the script
pub data AreNamedLines (tells : List ℕ → List ℕ → Bool → Type 0) (path : List ℕ) (targets : List Target) (lines : Option (List ℕ)) : Type 0 where
  whole : (k : ℕ) → (target : Target) → slice_get targets k ≡ Some target → IsOfScript tells path target true → target.line ≡ None → lines ≡ None → AreNamedLines tells path targets lines
  unnamed : AreLines tells path targets [] → lines ≡ None → AreNamedLines tells path targets lines
  named : (some : List ℕ) → AreLines tells path targets some → some ≢ [] → lines ≡ Some some → AreNamedLines tells path targets lines

-- why no directives are found by the lines that are named: memory was refused, or no head is at one of them or above it
pub data AreNotFound (are_named : List ℕ → Type 0) (heads : List ℕ) (missed : Failure) (error : PathError) : Type 0 where
  memory : error.failure ≡ OutOfMemory → AreNotFound are_named heads missed error
  missing : (lines : List ℕ) → (k : ℕ) → (line : ℕ) → are_named lines → slice_get lines k ≡ Some line → (IsNonDecreasing heads → ArePartedAt heads line 0) → error.failure ≡ missed → AreNotFound are_named heads missed error

-- the failure, if there is no directive: where outputs are accepted, none is written
abbrev pub no_directive_failure : Bool → Failure
no_directive_failure accepts = if accepts then NotWritten else NoDirective
