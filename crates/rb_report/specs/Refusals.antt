-- Why a script is refused, for those who wrote it: what is wrong, and its usual cause. (This project's.)
use Rattle.std.specs.Prelude.{ℕ, List, [], ◌++◌, Option, Some, None, codes, decimal}
use Rattle.rb_script.specs.declared.fault.ScriptFault.{ScriptFault}
use Rattle.rb_script.specs.declared.fault.ScriptFault.TheVariants as faults
use Rattle.rb_report.specs.Names.{shown_name}

abbrev pub sentence : ScriptFault → List ℕ
sentence faults.TooLong = codes "the script, or its canonical text, has more than 4,194,304 bytes; cut it into several scripts"
sentence (faults.LineTooLong line) =
    codes "this line has more than 65,536 bytes; usually an end of line is missing, or the file is not a script"
sentence (faults.BadLine line) =
    codes "this is not a name with arguments; usually a parenthesis is not closed or has no name= before it, a backslash is missing, or an empty line cut the output above"
sentence (faults.NoSeparator line) =
    codes "no line ---- follows this directive; usually it was left out, or an empty line cut the output above"
sentence (faults.NotClosed line) =
    codes "the output below this ---- has no end; usually an empty line is missing before the next directive, or the two closing ---- are missing"
sentence faults.TooManyDirectives = codes "the script has more than 20,000 directives; cut it into several scripts"
sentence faults.NotOneBlock = codes "one directive with its output is wanted, and nothing after it"
sentence (faults.TooManyArguments line) =
    codes "this directive has more than 64 arguments, or more than 64 values of one; usually a backslash takes in a line too many"
sentence faults.OutOfMemory = codes "out of memory"

-- the line of the fault, counted from 1
abbrev pub fault_line : ScriptFault → Option ℕ
fault_line faults.TooLong = None
fault_line (faults.LineTooLong line) = Some line
fault_line (faults.BadLine line) = Some line
fault_line (faults.NoSeparator line) = Some line
fault_line (faults.NotClosed line) = Some line
fault_line faults.TooManyDirectives = None
fault_line faults.NotOneBlock = None
fault_line (faults.TooManyArguments line) = Some line
fault_line faults.OutOfMemory = None

abbrev pub at_line : Option ℕ → List ℕ
at_line None = []
at_line (Some line) = codes ":" ++ decimal line

abbrev pub refusal_text : List ℕ → ScriptFault → List ℕ
refusal_text path fault = shown_name path ++ (at_line (fault_line fault) ++ (codes ": " ++ (sentence fault ++ codes "\n")))
