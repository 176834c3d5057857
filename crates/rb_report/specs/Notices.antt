-- Notes besides mismatches: outputs that were not accepted, and lines that are probably mistakes. (This project's.)
use Rattle.std.specs.Prelude.{ℕ, List, ◌++◌, codes, decimal}
use Rattle.rb_report.specs.declared.check.warning_kind.WarningKind.{WarningKind}
use Rattle.rb_report.specs.declared.check.warning_kind.WarningKind.TheVariants as doubts
use Rattle.rb_report.specs.Headings.{heading_text}
use Rattle.rb_report.specs.Names.{shown_name}

-- a directive whose error was not accepted
abbrev pub left_text : List ℕ → ℕ → List ℕ → List ℕ → List ℕ
left_text path line head error = heading_text path line head ++ (codes ": " ++ (error ++ codes " was not accepted\n"))

-- what is wrong with a line, and its usual cause
abbrev pub warning_sentence : WarningKind → List ℕ
warning_sentence doubts.InExpectation = codes "this looks like a directive inside an expectation: an empty line is missing before it"
warning_sentence doubts.InInput = codes "this looks like a directive inside input: a line ---- is missing before it"
warning_sentence doubts.Unread = codes "this is input, and the directive above it takes none: a line ---- is missing before it"

abbrev pub warning_text : List ℕ → ℕ → WarningKind → List ℕ
warning_text path line doubt = shown_name path ++ (codes ":" ++ (decimal line ++ (codes ": warning: " ++ (warning_sentence doubt ++ codes "\n"))))

-- a script that has such lines, and into which nothing was written
abbrev pub unaccepted_text : List ℕ → List ℕ
unaccepted_text path = shown_name path ++ codes ": nothing was accepted, since it has warnings; --force accepts all the same\n"
