-- The commands of a session, by their words. (This project's.)
use Rattle.std.specs.Prelude.{ℕ, nat_lt, if◌then◌else◌, List, [], ◌∷◌, Option, Some, None, codes}
use Rattle.std.specs.Str.{bytes_eq}
use Rattle.rb_script.specs.Lines.{Line}
use Rattle.rb_bench.specs.declared.limits.TheConstants.{MAX_GIVEN}
use Rattle.rb_bench.specs.declared.command.Command.{Command}
use Rattle.rb_bench.specs.declared.command.Command.TheVariants.{Blank, Bad, Given, Remove, Accept, Show, Report, Script, Rewrite}
use Rattle.rb_bench.specs.declared.command.Purpose.{Purpose}
use Rattle.rb_bench.specs.declared.command.Purpose.TheVariants.{Insert, Replace, Expect}
use Rattle.rb_text.specs.Words.{words}
use Rattle.rb_text.specs.Numbers.{number_of}

-- a command of one word
abbrev pub alone : Line → Command
alone name =
    if bytes_eq name (codes "accept") then Accept
    else if bytes_eq name (codes "report") then Report
    else if bytes_eq name (codes "script") then Script
    else if bytes_eq name (codes "rewrite") then Rewrite
    else Bad

-- a command with a place
abbrev pub placed : Line → Option ℕ → Command
placed name None = Bad
placed name (Some place) =
    if bytes_eq name (codes "remove") then Remove place
    else if bytes_eq name (codes "show") then Show place
    else Bad

abbrev pub purpose_of : Line → Option Purpose
purpose_of name =
    if bytes_eq name (codes "insert") then Some Insert
    else if bytes_eq name (codes "replace") then Some Replace
    else if bytes_eq name (codes "expect") then Some Expect
    else None

abbrev pub if_few : Purpose → ℕ → ℕ → Command
if_few purpose place count = if nat_lt MAX_GIVEN count then Bad else Given purpose place count

-- a command with a place, and how many lines follow
abbrev pub given : Option Purpose → Option ℕ → Option ℕ → Command
given None place count = Bad
given (Some purpose) None count = Bad
given (Some purpose) (Some place) None = Bad
given (Some purpose) (Some place) (Some count) = if_few purpose place count

abbrev pub spelled : List Line → Command
spelled [] = Blank
spelled (name ∷ []) = alone name
spelled (name ∷ place ∷ []) = placed name (number_of place)
spelled (name ∷ place ∷ count ∷ []) = given (purpose_of name) (number_of place) (number_of count)
spelled (name ∷ place ∷ count ∷ more ∷ words) = Bad

-- the command of a line
unfoldable pub command_of : Line → Command
command_of line = spelled (words line)
