-- A script's report as workflow commands, one a line, which GitHub shows next to the script's lines. (GitHub, Workflow commands for
-- GitHub Actions.)
use Rattle.std.specs.Prelude.{ℕ, zero, suc, ◌==◌, ◌-◌, nat_le, if◌then◌else◌, List, [], ◌++◌, Option, Some, None, codes, decimal, drop, length, slice_index, take}
use Rattle.std.specs.List.{flat_map}
use Rattle.std.specs.Str.{bytes_eq}
use Rattle.rb_script.specs.Lines.{Line}
use Rattle.rb_report.specs.declared.check.colors.Colors.TheVariants.{Off}
use Rattle.rb_report.specs.Pieces.{noun}
use Rattle.rb_report.specs.Whys.{told_diff}
use Rattle.rb_check.specs.declared.piece.CommandPiece.{CommandPiece}
use Rattle.rb_check.specs.declared.piece.CommandPiece.TheVariants as pieces
use Rattle.rb_check.specs.Escapes.{in_message, in_property}

abbrev pub line_property : Option ℕ → List ℕ
line_property None = []
line_property (Some line) = codes ",line=" ++ decimal line

-- a path without this at its front, if it has it there
abbrev pub without_front : List ℕ → List ℕ → List ℕ
without_front front path = if bytes_eq (take (length front) path) front then drop (length front) path else path

abbrev pub piece_text : CommandPiece → List ℕ
piece_text (pieces.Bytes bytes) = bytes.now
piece_text (pieces.Property bytes) = flat_map in_property bytes.now
piece_text (pieces.File path) = flat_map in_property (without_front (codes "./") path.now)
piece_text (pieces.Message bytes) = flat_map in_message bytes.now
piece_text (pieces.Line line) = line_property line

-- A command with the file, the line and the title that it is shown with, and what follows. GitHub knows a file by its path in the repository, which has no
-- `./` at its front.
abbrev pub command_with : List ℕ → List ℕ → Option ℕ → List ℕ → List ℕ → List ℕ
command_with command path line title rest =
    codes "::" ++ (command ++ (codes " file=" ++ (flat_map in_property (without_front (codes "./") path) ++ (line_property line ++ (codes ",title=" ++ (flat_map in_property title ++ (codes "::" ++ rest)))))))

abbrev pub command_text : List ℕ → List ℕ → Option ℕ → List ℕ → List ℕ → List ℕ
command_text command path line title message = command_with command path line title (flat_map in_message message ++ codes "\n")

-- how many other directives of the script differ
abbrev pub others_text : ℕ → List ℕ
others_text others = if others == 0 then [] else codes "; " ++ (decimal others ++ noun others (codes " other directive differs") (codes " other directives differ"))

-- what the signs mean
abbrev pub legend_text : ℕ → List ℕ
legend_text others = codes "(- expected, + output" ++ (others_text others ++ codes ")\n")

-- how many of the first n bytes are up to the last end of a line among them
abbrev pub last_end : List ℕ → ℕ → ℕ
last_end diff zero = 0
last_end diff (suc n) = if slice_index diff n == 10 then suc n else last_end diff n

-- how many bytes of a diff are shown: all of 4,096 or fewer, or else those of the whole lines within the first 4,096
abbrev pub kept_of : List ℕ → ℕ
kept_of diff = if nat_le (length diff) 4096 then length diff else last_end diff 4096

-- in the place of n bytes
abbrev pub rest_text : ℕ → List ℕ
rest_text n = if n == 0 then [] else codes ".. " ++ (decimal n ++ codes " more bytes\n")

-- a diff that has no more lines than GitHub shows
abbrev pub shortened : List ℕ → List ℕ
shortened diff = take (kept_of diff) diff ++ rest_text (length diff - kept_of diff)

-- a mismatch: the head is the title, and the shortened diff the message, with reasons; n cells are left to compare it
abbrev pub difference_text : ℕ → List ℕ → ℕ → List ℕ → List Line → List Line → List Line → ℕ → List ℕ
difference_text left path line head expected output why others =
    command_with (codes "error") path (Some line) head (flat_map in_message (shortened (told_diff left Off why expected output)) ++ legend_text others)
