-- The statuses by which the program ends. (This project's.)
use Rattle.std.specs.Prelude.{ℕ}
use Rattle.rb_report.specs.declared.check.status.Status.{Status}
use Rattle.rb_report.specs.declared.check.status.Status.TheVariants.{Matched, Mismatched, BadUsage, Refused, Failed, OutOfMemory}

-- the number of each
abbrev pub code_of : Status → ℕ
code_of Matched = 0
code_of Mismatched = 1
code_of BadUsage = 2
code_of Refused = 3
code_of Failed = 4
code_of OutOfMemory = 5
