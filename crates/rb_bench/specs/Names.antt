-- The names of faults. (This project's.)
use Rattle.std.specs.Prelude.{ℕ, codes, List}
use Rattle.rb_script.specs.declared.fault.ScriptFault.{ScriptFault}
use Rattle.rb_script.specs.declared.fault.ScriptFault.TheVariants as scripts
use Rattle.rb_script.specs.declared.fault.EditFault.{EditFault}
use Rattle.rb_script.specs.declared.fault.EditFault.TheVariants as edits

-- a fault of a script or a block
abbrev pub script_name : ScriptFault → List ℕ
script_name scripts.TooLong = codes "TooLong"
script_name (scripts.LineTooLong line) = codes "LineTooLong"
script_name (scripts.BadLine line) = codes "BadLine"
script_name (scripts.NoSeparator line) = codes "NoSeparator"
script_name (scripts.NotClosed line) = codes "NotClosed"
script_name scripts.TooManyDirectives = codes "TooManyDirectives"
script_name scripts.NotOneBlock = codes "NotOneBlock"
script_name (scripts.TooManyArguments line) = codes "TooManyArguments"
script_name scripts.OutOfMemory = codes "OutOfMemory"

-- a refusal of an edit
abbrev pub edit_name : EditFault → List ℕ
edit_name edits.NoSuchPlace = codes "NoSuchPlace"
edit_name edits.BadExpectation = codes "BadExpectation"
edit_name edits.TooManyDirectives = codes "TooManyDirectives"
edit_name edits.TooLong = codes "TooLong"
edit_name edits.OutOfMemory = codes "OutOfMemory"
