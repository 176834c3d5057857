-- What a folder's file `.raftbenchignore` names. (This project's; the lines of a text, its white space and the joining of paths are the
-- standard library's.)
use Rattle.std.specs.Prelude.{ℕ, List, Option, Some, None, ◌||◌, ◌==◌, if◌then◌else◌, length, map, slice_index}
use Rattle.std.specs.Io.BufRead.{strip_last}
use Rattle.std.specs.List.{filter_map}
use Rattle.std.specs.Path.{path_join}
use Rattle.std.specs.Str.{trim}
use Rattle.std.specs.Str.Lines.{lines}

abbrev pub slash : ℕ
slash = 47

abbrev pub number_sign : ℕ
number_sign = 35

-- the line without the white space around it and a slash at its end; nothing, where that is empty or begins with a `#`
abbrev pub named_by : List ℕ → Option (List ℕ)
named_by line =
    let name = strip_last slash (trim line) in
    if (length name == 0) || (slice_index name 0 == number_sign) then None else Some name

-- the paths that a text names in its folder
abbrev pub ignored_by : List ℕ → List ℕ → List (List ℕ)
ignored_by folder text = map (path_join folder) (filter_map named_by (lines text))
