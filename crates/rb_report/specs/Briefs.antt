-- A script that differs, in one line. (This project's.)
use Rattle.std.specs.Prelude.{ℕ, List, ◌++◌, codes, decimal}
use Rattle.rb_report.specs.Names.{shown_name}

-- how many of its directives differ, and the line on which the head of the first of them begins
abbrev pub brief_text : List ℕ → ℕ → ℕ → ℕ → List ℕ
brief_text path mismatches directives line =
    shown_name path ++ (codes ": " ++ (decimal mismatches ++ (codes " of " ++ (decimal directives ++ (codes " differ, first at line " ++ (decimal line ++ codes "\n"))))))
