-- What is at a path. (This project's; the bits of a mode are C's `S_IFMT` and its values.)
use Rattle.std.specs.Prelude.{◌≡◌, ◌≤◌, ℕ, zero, suc, ◌==◌, if◌then◌else◌, List, Option, None, Some, bit_and, string_bytes}
use Rattle.std.specs.Path.{path_join}
use Rattle.rb_report.specs.declared.check.failure.Failure.{Failure}
use Rattle.rb_report.specs.declared.check.failure.Failure.TheVariants as failures
use Rattle.rb_files.specs.Names.{folder_of}
use Rattle.rb_files.specs.declared.entry.FileId.{FileId}
use Rattle.rb_files.specs.declared.entry.PathEntry.{PathEntry}
use Rattle.rb_files.specs.declared.entry.PathEntry.TheVariants as entries
use Rattle.rb_files.specs.declared.kind.Kind.{Kind}
use Rattle.rb_files.specs.declared.kind.Kind.TheVariants as kinds

abbrev pub kind_of_bits : ℕ → Kind
kind_of_bits bits =
    if bits == 0o040000 then kinds.Folder
    else (if bits == 0o100000 then kinds.File
    else (if bits == 0o120000 then kinds.Link
    else (if bits == 0o010000 then kinds.Pipe
    else (if bits == 0o140000 then kinds.Socket
    else (if bits == 0o020000 then kinds.Device
    else (if bits == 0o060000 then kinds.Device
    else kinds.Unknown))))))

-- what has this mode
abbrev pub kind_of : ℕ → Kind
kind_of mode = kind_of_bits (bit_and mode 0o170000)

-- why something that the system follows a path to is no script, where it is known by its kind alone
abbrev pub special : Kind → Option Failure
special kinds.Pipe = Some failures.Pipe
special kinds.Socket = Some failures.Socket
special kinds.Device = Some failures.Device
special _ = None

-- the file, if it is one
abbrev pub file_of : PathEntry → Option FileId
file_of (entries.Folder id) = None
file_of (entries.File id) = Some id
file_of (entries.Other failure) = None

-- it is a file with this name in its folder
abbrev pub IsFileNamed : List ℕ → PathEntry → Type 0
IsFileNamed name entry = (id : FileId) × (entry ≡ entries.File id) × (string_bytes id.name ≡ name)

-- a link leads there, by some text that is followed from the link's folder
abbrev pub IsLinked : List ℕ → List ℕ → Type 0
IsLinked link target = (text : List ℕ) × (target ≡ path_join (folder_of link) text)

-- n links in a row lead from the path to the target
abbrev pub LeadsBy : ℕ → List ℕ → List ℕ → Type 0
LeadsBy zero path target = target ≡ path
LeadsBy (suc n) path target = (link : List ℕ) × LeadsBy n path link × IsLinked link target

-- at most this many links lead from the path to the target
abbrev pub LeadsTo : ℕ → List ℕ → List ℕ → Type 0
LeadsTo most path target = (n : ℕ) × (n ≤ most) × LeadsBy n path target
