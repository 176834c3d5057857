-- The report of a script as JSON, an object on each line. (This project's; RFC 8259, and one object a line as in JSON Lines.)
use Rattle.std.specs.Prelude.{ℕ, ◌==◌, if◌then◌else◌, List, [], ◌++◌, length, Option, Some, None, codes, decimal, map}
use Rattle.std.specs.List.{flat_map}
use Rattle.rb_text.specs.Json.{ascii}
use Rattle.rb_script.specs.Lines.{Line}
use Rattle.rb_report.specs.Heads.{listed}
use Rattle.rb_report.specs.declared.check.totals.Totals.{Totals}
use Rattle.rb_script_report.specs.Checked.{head_of}
use Rattle.rb_check.specs.declared.totals_object.TotalsPiece.{TotalsPiece}
use Rattle.rb_check.specs.declared.totals_object.TotalsPiece.TheVariants as pieces
use Rattle.rb_check.specs.Subjects.{PlainRan}

-- a line between quotes
abbrev pub quoted : Line → List ℕ
quoted line = codes "\"" ++ (flat_map ascii line ++ codes "\"")

-- lines from one that has an index, with a comma between each two
abbrev pub strings_from : ℕ → List Line → List ℕ
strings_from i ls = listed i (map quoted ls)

-- what is before the expected lines
abbrev pub object_front : List ℕ → ℕ → List ℕ → List ℕ → List ℕ
object_front path line head status =
    codes "{\"script\":\"" ++ (flat_map ascii path ++ (codes "\",\"line\":" ++ (decimal line ++ (codes ",\"directive\":\"" ++ (flat_map ascii head ++ (codes "\",\"status\":\"" ++ (status ++ codes "\",\"expected\":[")))))))

-- the reasons of its output, a text for each line, where there are any
abbrev pub reasons_member : List Line → List ℕ
reasons_member why = if length why == 0 then [] else codes "],\"reasons\":[" ++ strings_from 0 why

-- a directive, with what is expected of it and what it gave
abbrev pub lines_members : List ℕ → ℕ → List ℕ → List ℕ → List Line → List Line → List ℕ
lines_members path line head status expected output =
    object_front path line head status ++ (strings_from 0 expected ++ (codes "],\"output\":[" ++ strings_from 0 output))

abbrev pub object_end : List Line → List ℕ
object_end why = reasons_member why ++ codes "]}\n"

-- the same, with the reasons of what it gave
abbrev pub object_text : List ℕ → List ℕ → PlainRan → List ℕ
object_text path status d = lines_members path d.line (head_of d.block) status d.block.expected d.output ++ object_end d.why

-- the line that a notice is about, if there is one, after the script's path
abbrev pub line_member : Option ℕ → List ℕ
line_member None = codes "\",\"line\":null"
line_member (Some line) = codes "\",\"line\":" ++ decimal line

-- a notice about a script
abbrev pub notice_object : List ℕ → Option ℕ → List ℕ → List ℕ → List ℕ
notice_object path line status message =
    codes "{\"script\":\"" ++ (flat_map ascii path ++ (line_member line ++ (codes ",\"status\":\"" ++ (status ++ (codes "\",\"message\":\"" ++ (flat_map ascii message ++ codes "\"}\n"))))))

-- a member with a count, after another member
abbrev pub count_member : List ℕ → ℕ → List ℕ
count_member name count = codes ",\"" ++ (name ++ (codes "\":" ++ decimal count))

-- the totals of all paths, the last object
abbrev pub totals_object : Totals → List ℕ
totals_object t =
    codes "{\"status\":\"totals\"" ++ (count_member (codes "scripts") t.scripts ++ (count_member (codes "directives") t.directives ++ (count_member (codes "mismatches") t.mismatches
    ++ (count_member (codes "refused") t.refused ++ (count_member (codes "errors") t.errors ++ (count_member (codes "warnings") t.warnings
    ++ (count_member (codes "accepted") t.accepted ++ (count_member (codes "failed") t.failed ++ codes "}\n"))))))))

abbrev pub totals_piece : TotalsPiece → List ℕ
totals_piece (pieces.Bytes bytes) = bytes.now
totals_piece (pieces.Count name count) = count_member name.now count
