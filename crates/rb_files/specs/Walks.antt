-- How a search goes over what a tree says of its paths. (This project's; the keys of a set are the standard library's.)
use Rattle.std.specs.Prelude.{◌≡◌, ℕ, zero, suc, Bool, true, false, List, [], ◌∷◌, ◌++◌, Option, Ok, Err, Result, String, MatchBool, string_bytes}
use Rattle.std.specs.BTreeSet.{IsUnchanged, contains, insert_key}
use Rattle.std.specs.declared.alloc.Global.{Global}
use Rattle.std.specs.declared.cmp.Ordering.{Ordering}
use Rattle.rb_files.specs.Finds.{Heeds, IsKept, Loses, Misses, Waits, losses, names_of}
use Rattle.rb_files.specs.PathErrors.{without_cause}
use Rattle.rb_files.specs.declared.entry.FileId.{FileId}
use Rattle.rb_files.specs.declared.entry.FolderId.{FolderId}
use Rattle.rb_files.specs.declared.entry.PathEntry.{PathEntry}
use Rattle.rb_files.specs.declared.entry.PathEntry.TheVariants as entry
use Rattle.rb_files.specs.declared.finding.Found.{Found}
use Rattle.rb_files.specs.declared.finding.Search.{Search}
use Rattle.rb_files.specs.declared.finding.Waiting.{Waiting}
use Rattle.rb_files.specs.declared.listing.Listing.{Listing}
use Rattle.rb_files.specs.declared.path_error.PathError.{PathError}

-- the paths of the command line wait: the last is the next, so it is the first of them
abbrev pub asked : List (List ℕ) → List (List ℕ × Bool)
asked [] = []
asked (path ∷ paths) = asked paths ++ (path, true) ∷ []

-- nothing but these paths was done
pub record IsBegun (paths : List (List ℕ)) (search : Search) : Type 0 where
  pub scripts : search.found.scripts.items ≡ []
  pub lost : losses search.found.lost.items ≡ []
  pub cut : search.found.is_cut ≡ false
  pub waiting : names_of search.waiting.items ≡ asked paths
  pub ignored : search.ignored.items ≡ []
  pub files : search.files.keys ≡ []
  pub folders : search.folders.keys ≡ []

-- what a folder's names do: they wait, or the folder is lost
abbrev pub Listed : List ℕ → Result Listing PathError → Search → Search → Type 0
Listed folder (Ok listing) old new = Waits folder listing old new
Listed folder (Err error) old new = Loses folder error old new

-- a script is found, if each of the words lets its path be kept and no path led to its file before
pub record Takes (file_cmp : FileId → FileId → Ordering) (words : List (String Global)) (path : String Global) (id : FileId) (old new : Search) : Type 0 where
  pub filtered : (IsKept words (string_bytes path) → ⊥) → new ≡ old
  pub known : IsKept words (string_bytes path) → contains file_cmp old.files id ≡ true → (new ≡ record old { files = new.files }) × IsUnchanged old.files new.files
  pub added : IsKept words (string_bytes path) → contains file_cmp old.files id ≡ false
      → (new ≡ record old { files = new.files; found = record old.found { scripts = new.found.scripts } })
      × (new.found.scripts.items ≡ old.found.scripts.items ++ path ∷ []) × (new.files.keys ≡ insert_key file_cmp old.files.keys id)

-- a folder's names are asked for; its relation says what the tree may answer
abbrev pub Lists : (List ℕ → Result Listing PathError → Type 0) → List ℕ → Search → Search → Type 0
Lists listings folder old new = (said : Result Listing PathError) × listings folder said × Listed folder said old new

-- a folder's ignore file is heeded, and then its names are asked for
abbrev pub Visits : (List ℕ → Result (Option (String Global)) PathError → Type 0) → (List ℕ → Result Listing PathError → Type 0) → List ℕ → Search → Search → Type 0
Visits ignores listings folder old new =
    (said : Result (Option (String Global)) PathError) × (visits : Bool) × (mid : Search)
    × ignores folder said × Heeds folder said visits old mid × MatchBool visits (Lists listings folder mid new) (new ≡ mid)

-- a folder is visited, unless it was before
abbrev pub Enters : (List ℕ → Result (Option (String Global)) PathError → Type 0) → (List ℕ → Result Listing PathError → Type 0) → (FolderId → FolderId → Ordering) → List ℕ → FolderId → Search → Search → Type 0
Enters ignores listings folder_cmp folder id old new =
    MatchBool (contains folder_cmp old.folders id)
    ((new ≡ record old { folders = new.folders }) × IsUnchanged old.folders new.folders)
    ((mid : Search) × (mid ≡ record old { folders = mid.folders }) × (mid.folders.keys ≡ insert_key folder_cmp old.folders.keys id) × Visits ignores listings folder mid new)

-- what the tree may say of a path, of a folder's ignore file and of a folder's names; how files and folders are told apart; and the words
module _ (entries : List ℕ → Result PathEntry PathError → Type 0) (ignores : List ℕ → Result (Option (String Global)) PathError → Type 0) (listings : List ℕ → Result Listing PathError → Type 0)
    (file_cmp : FileId → FileId → Ordering) (folder_cmp : FolderId → FolderId → Ordering) (words : List (String Global)) where
  -- what is done about a path of which this was said
  abbrev pub Follows : Waiting → Result PathEntry PathError → Search → Search → Type 0
  Follows next (Err error) old new = Misses next error old new
  Follows next (Ok (entry.Folder id)) old new = Enters ignores listings folder_cmp (string_bytes next.path) id old new
  Follows next (Ok (entry.File id)) old new = MatchBool next.is_script (Takes file_cmp words next.path id old new) (new ≡ old)
  Follows next (Ok (entry.Other failure)) old new = MatchBool next.is_script (Loses (string_bytes next.path) (without_cause failure) old new) (new ≡ old)

  -- a path is looked at
  abbrev pub LooksAt : Waiting → Search → Search → Type 0
  LooksAt next old new = (said : Result PathEntry PathError) × entries (string_bytes next.path) said × Follows next said old new

  -- the last of the paths that wait is looked at
  abbrev pub Steps : Search → Search → Type 0
  Steps old new =
      (next : Waiting) × (rest : Search)
      × (rest ≡ record old { waiting = rest.waiting }) × (old.waiting.items ≡ rest.waiting.items ++ next ∷ []) × LooksAt next rest new

  -- this many paths are looked at
  abbrev pub WalksFor : ℕ → Search → Search → Type 0
  WalksFor zero old new = new ≡ old
  WalksFor (suc n) old new = (mid : Search) × WalksFor n old mid × Steps mid new

  abbrev pub Walks : Search → Search → Type 0
  Walks old new = (n : ℕ) × WalksFor n old new

  -- this is found once nothing waits any more
  abbrev pub EndsWith : Search → Found → Type 0
  EndsWith old found = (last : Search) × Walks old last × (last.waiting.items ≡ []) × (found ≡ last.found)

  -- what is found of some paths: they are looked at from the first on, until nothing waits
  abbrev pub IsWalk : List (List ℕ) → Found → Type 0
  IsWalk paths found = (first : Search) × IsBegun paths first × EndsWith first found
