-- Names of files and folders, and looks at them. (This project's; the parts of a path are the standard library's.)
use Rattle.std.specs.Prelude.{◌≡◌, ◌↔◌, ℕ, ◌-◌, ◌==◌, ◌&&◌, Bool, true, not, if◌then◌else◌, List, [], ◌∷◌, ◌++◌, Option, Some, None, String, Vec, codes, decimal, drop, length, map, string_bytes, unwrap_or}
use Rattle.std.specs.Io.KnownBytes.{Consumes}
use Rattle.std.specs.List.{Any, Contains, filter, slice_split}
use Rattle.std.specs.List.Sorted.{IsStrictlySortedBy}
use Rattle.std.specs.String.{string_cmp}
use Rattle.std.specs.declared.alloc.Global.{Global}
use Rattle.std.specs.Path.{path_file_name, path_parent}
use Rattle.std.specs.Str.{bytes_eq, is_utf8}
use Rattle.rb_files.specs.declared.atomic_replace.Owner.{Owner}
use Rattle.rb_files.specs.declared.entry.FolderId.{FolderId}
use Rattle.rb_files.specs.declared.file_look.FileLook.{FileLook}
use Rattle.rb_files.specs.declared.listing.Listing.{Listing}

-- the name of a script in a folder ends in `.txt`
abbrev pub is_script_name : List ℕ → Bool
is_script_name name = bytes_eq (drop (length name - 4) name) (codes ".txt")

-- a folder's path, which without one is the folder that the program runs in
abbrev pub or_here : Option (List ℕ) → List ℕ
or_here None = codes "."
or_here (Some folder) = if length folder == 0 then codes "." else folder

-- the folder that a path's last name is in
abbrev pub folder_of : List ℕ → List ℕ
folder_of path = or_here (path_parent path)

-- a path's last name; a path that has none is its own
abbrev pub name_of : List ℕ → List ℕ
name_of path = unwrap_or (path_file_name path) path

-- a name that begins with a dot is hidden, as from `*`, and so is the empty one
abbrev pub is_hidden : List ℕ → Bool
is_hidden [] = true
is_hidden (b ∷ name) = b == 46

-- the names are in the order of their bytes, each once
abbrev pub AreInOrder : List (String Global) → Type 0
AreInOrder names = IsStrictlySortedBy string_cmp names

-- one of the names has these bytes
abbrev pub HasName : List (String Global) → List ℕ → Type 0
HasName names name = Any (λ n. string_bytes n ≡ name) names

-- the names that a folder gives, each ended by a NUL; the last part, after the last of them, is empty
abbrev pub parts_of : List ℕ → List (List ℕ)
parts_of bytes = slice_split (λ b. b == 0) bytes

-- those that aren't hidden, and are text
abbrev pub text_names : List (List ℕ) → List (List ℕ)
text_names parts = filter (λ name. not (is_hidden name) && is_utf8 name) parts

-- those that aren't hidden, and are no text
abbrev pub strange_names : List (List ℕ) → List (List ℕ)
strange_names parts = filter (λ name. not (is_hidden name) && not (is_utf8 name)) parts

-- the bytes of names that are no text
abbrev pub strange_bytes : List (Vec ℕ Global) → List (List ℕ)
strange_bytes names = map (λ v. v.items) names

-- what a folder's parts give: the names that are text in their order, each once, and the others as they came
pub record IsListing (parts : List (List ℕ)) (listing : Listing) : Type 0 where
  pub order : AreInOrder listing.names.items
  pub names : (name : List ℕ) → Contains (text_names parts) name ↔ HasName listing.names.items name
  pub strange : strange_bytes listing.strange.items ≡ strange_names parts

-- a folder is known by its device and its number there
abbrev pub folder_id : FileLook → FolderId
folder_id look = record { device = look.device; number = look.number }

-- the owner that a file is given: the one that is wanted, unless it has it
abbrev pub owner_to_give : Owner → Owner → Option Owner
owner_to_give now wanted = if (now.user == wanted.user) && (now.group == wanted.group) then None else Some wanted

-- the name of a new file, next to the one that it is to replace
abbrev pub new_name : ℕ → List ℕ
new_name number = codes ".raftbench-" ++ (decimal number ++ codes ".new")

-- what a reader gave is after the bytes
abbrev pub IsAdded : Option (List ℕ) → Option (List ℕ) → List ℕ → List ℕ → Type 0
IsAdded left_old left_new bytes_old bytes_new = (given : List ℕ) × (bytes_new ≡ bytes_old ++ given) × Consumes left_old left_new given
