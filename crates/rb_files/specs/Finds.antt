-- What finding scripts gives. (This project's.)
use Rattle.std.specs.Prelude.{◌≡◌, ℕ, Bool, true, false, not, ◌&&◌, if◌then◌else◌, List, [], ◌∷◌, ◌++◌, None, Some, Option, Ok, Err, Result, String, Vec, MatchBool, codes, map, string_bytes}
use Rattle.std.specs.List.{All, list_any}
use Rattle.std.specs.Path.{path_join}
use Rattle.std.specs.Str.{bytes_eq}
use Rattle.std.specs.Str.Iter.{HasSubslice}
use Rattle.std.specs.declared.alloc.Global.{Global}
use Rattle.rb_report.specs.declared.check.failure.Failure.TheVariants as failures
use Rattle.rb_files.specs.Ignored.{ignored_by, slash}
use Rattle.rb_files.specs.Names.{is_script_name}
use Rattle.rb_files.specs.PathErrors.{IsOfReading, is_missing, without_cause}
use Rattle.rb_files.specs.declared.finding.Found.{Found}
use Rattle.rb_files.specs.declared.finding.FailedPath.{FailedPath}
use Rattle.rb_files.specs.declared.finding.Search.{Search}
use Rattle.rb_files.specs.declared.finding.Waiting.{Waiting}
use Rattle.rb_files.specs.declared.listing.Listing.{Listing}
use Rattle.rb_files.specs.declared.path_error.PathError.{PathError}

abbrev pub exclamation_mark : ℕ
exclamation_mark = 33

-- the path has not what is after the word's `!`, or without that it has the word
pub record IsMet (word path : List ℕ) : Type 0 where
  pub left_out : (rest : List ℕ) → word ≡ exclamation_mark ∷ rest → HasSubslice path rest → ⊥
  pub wanted : ((rest : List ℕ) → word ≡ exclamation_mark ∷ rest → ⊥) → HasSubslice path word

-- each of the words holds of the path
abbrev pub IsKept : List (String Global) → List ℕ → Type 0
IsKept words path = All (λ word. IsMet (string_bytes word) path) words

-- why each of them is lost is what the system said, where it said something
unfoldable pub AreTold : List FailedPath → Type 0
AreTold lost = All (λ l. IsOfReading l.error) lost

-- the paths that are lost, and why
abbrev pub losses : List FailedPath → List (List ℕ × PathError)
losses lost = map (λ l. (l.path.items, l.error)) lost

-- the paths that wait, and whether files there are scripts
abbrev pub names_of : List Waiting → List (List ℕ × Bool)
names_of waiting = map (λ w. (string_bytes w.path, w.is_script)) waiting

-- one of the ignored paths is this one
abbrev pub is_ignored : List (String Global) → List ℕ → Bool
is_ignored ignored path = list_any (λ i. bytes_eq (string_bytes i) path) ignored

-- a path waits, unless it is ignored
abbrev pub unless_ignored : List (String Global) → List ℕ → Bool → List (List ℕ × Bool)
unless_ignored ignored path is_script = if is_ignored ignored path then [] else (path, is_script) ∷ []

-- what waits for a folder's names: the last path is the next, so it is the first name's
abbrev pub waiting_of : List (String Global) → List ℕ → List (String Global) → List (List ℕ × Bool)
waiting_of ignored folder [] = []
waiting_of ignored folder (name ∷ names) =
    waiting_of ignored folder names ++ unless_ignored ignored (path_join folder (string_bytes name)) (is_script_name (string_bytes name))

-- the path is lost, and nothing else happens
abbrev pub Loses : List ℕ → PathError → Search → Search → Type 0
Loses path error old new =
    (new ≡ record old { found = record old.found { lost = new.found.lost } })
    × (losses new.found.lost.items ≡ losses old.found.lost.items ++ (path, error) ∷ [])

-- these wait too, and nothing else happens
abbrev pub WaitsFor : List (List ℕ × Bool) → Search → Search → Type 0
WaitsFor paths old new = (new ≡ record old { waiting = new.waiting }) × (names_of new.waiting.items ≡ names_of old.waiting.items ++ paths)

-- the paths of a folder whose names are no text
abbrev pub undecodable : List ℕ → List (Vec ℕ Global) → List (List ℕ × PathError)
undecodable folder names = map (λ name. (folder ++ slash ∷ name.items, without_cause failures.NotRead)) names

-- a folder's names that are text wait, and the others are lost
abbrev pub Waits : List ℕ → Listing → Search → Search → Type 0
Waits folder listing old new =
    (new ≡ record old { waiting = new.waiting; found = record old.found { lost = new.found.lost } })
    × (losses new.found.lost.items ≡ losses old.found.lost.items ++ undecodable folder listing.strange.items)
    × (names_of new.waiting.items ≡ names_of old.waiting.items ++ waiting_of old.ignored.items folder listing.names.items)

-- a name that was listed and is gone, which was no folder's and would be no script's
abbrev pub is_vanished : Waiting → PathError → Bool
is_vanished next error = (not next.is_script && not next.is_folder) && is_missing error

-- a path that can't be looked at is lost, unless it vanished
abbrev pub Misses : Waiting → PathError → Search → Search → Type 0
Misses next error old new = MatchBool (is_vanished next error) (new ≡ old) (Loses (string_bytes next.path) error old new)

-- a folder's ignore file
abbrev pub ignore_file : List ℕ → List ℕ
ignore_file folder = path_join folder (codes ".raftbenchignore")

-- Whether a folder is visited, by its ignore file: without one it is; the paths in one are ignored; one that can't be read is lost, and the folder isn't visited.
abbrev pub Heeds : List ℕ → Result (Option (String Global)) PathError → Bool → Search → Search → Type 0
Heeds folder (Ok None) visits old new = (visits ≡ true) × (new ≡ old)
Heeds folder (Ok (Some text)) visits old new =
    (visits ≡ true) × (new ≡ record old { ignored = new.ignored })
    × (map string_bytes new.ignored.items ≡ map string_bytes old.ignored.items ++ ignored_by folder (string_bytes text))
Heeds folder (Err error) visits old new = (visits ≡ false) × Loses (ignore_file folder) error old new

-- what is found by some words: each holds of each path, and each loss is reported
pub record IsFound (words : List (String Global)) (found : Found) : Type 0 where
  pub kept : All (λ path. IsKept words (string_bytes path)) found.scripts.items
  pub told : AreTold found.lost.items
