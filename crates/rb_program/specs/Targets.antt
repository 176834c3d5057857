-- What the PATHs of `check` name, by what the system tells of paths. (This project's.)
use Rattle.std.specs.Prelude.{◌≡◌, ◌≢◌, ℕ, ◌⊎◌, List, Option, Some, None, String, string_bytes}
use Rattle.std.specs.List.{AllZip}
use Rattle.std.specs.declared.alloc.Global.{Global}
use Rattle.rb_check.specs.declared.target.Target.{Target}
use Rattle.rb_program.specs.declared.path_kind.PathKind.{PathKind}
use Rattle.rb_program.specs.declared.path_kind.PathKind.TheVariants as kinds
use Rattle.rb_program.specs.Choices.{path_and_line}

-- something is at the path
abbrev pub IsThere : (List ℕ → PathKind → Type 0) → List ℕ → Type 0
IsThere tells path = (kind : PathKind) × tells path kind × (kind ≢ kinds.Nothing)

-- FILE, if there is one, is no file
abbrev pub IsNoFile : (List ℕ → PathKind → Type 0) → Option (List ℕ × ℕ) → Type 0
IsNoFile tells None = Unit {0}
IsNoFile tells (Some place) = (kind : PathKind) × tells place.0 kind × (kind ≢ kinds.File)

-- if nothing is at a word's path: the word is FILE:LINE, and FILE is a file; or it is a path
abbrev pub NamesLine : (List ℕ → PathKind → Type 0) → List ℕ → List ℕ → Option ℕ → Type 0
NamesLine tells word path None = (path ≡ word) × IsNoFile tells (path_and_line word)
NamesLine tells word path (Some line) = (path_and_line word ≡ Some (path, line)) × tells path kinds.File

-- a word is a path if something is there, and only otherwise a line of a file
abbrev pub Names : (List ℕ → PathKind → Type 0) → List ℕ → List ℕ → Option ℕ → Type 0
Names tells word path line = ((line ≡ None) × (path ≡ word) × IsThere tells word) ⊎ (tells word kinds.Nothing × NamesLine tells word path line)

-- what the words of a command line name, in their order
abbrev pub AreNamed : (List ℕ → PathKind → Type 0) → List (String Global) → List Target → Type 0
AreNamed tells words targets = AllZip (λ word target. Names tells (string_bytes word) (string_bytes target.path) target.line) words targets
