-- The place of a directive in a file, and what is shown of it. (This project's.)
use Rattle.std.specs.Prelude.{ℕ, List, ◌++◌, codes, decimal}
use Rattle.rb_script.specs.Lines.{Line}
use Rattle.rb_report.specs.declared.check.colors.Colors.TheVariants.{Off}
use Rattle.rb_report.specs.declared.check.side.Side.TheVariants.{Both}
use Rattle.rb_report.specs.Diffs.{on_side, diff_text}
use Rattle.rb_report.specs.Names.{shown_name}

-- the file and a line of it, which counts from 1
abbrev pub place_text : List ℕ → ℕ → List ℕ
place_text path line = shown_name path ++ (codes ":" ++ (decimal line ++ codes ": "))

-- where the head of a directive begins, and the head
abbrev pub heading_text : List ℕ → ℕ → List ℕ → List ℕ
heading_text path line head = place_text path line ++ head

-- a directive with its output, and a hint
abbrev pub directive_text : List ℕ → ℕ → List ℕ → List Line → List ℕ → List ℕ
directive_text path line head output hint = heading_text path line head ++ (codes "\n" ++ (diff_text Off (on_side Both output) ++ hint))

-- a directive, and a note on it
abbrev pub note_text : List ℕ → ℕ → List ℕ → List ℕ → List ℕ → List ℕ
note_text path line head note hint = heading_text path line head ++ ((codes ": " ++ (note ++ codes "\n")) ++ hint)
