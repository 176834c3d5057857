-- What is told of a fault tells which it is.
use Rattle.std.proofs.Common.{◌≡◌, ◌∙◌, ℕ, List, Option, refl, ap, sym}
use Rattle.std.specs.Prelude.{codes, if◌then◌else◌}
use Rattle.std.specs.Str.{bytes_eq}
use Rattle.std.specs.Option.{unwrap_or}
use Rattle.rb_script.specs.declared.fault.ScriptFault.{ScriptFault}
use Rattle.rb_script.specs.declared.fault.ScriptFault.TheVariants as scripts
use Rattle.rb_script.specs.declared.fault.EditFault.{EditFault}
use Rattle.rb_script.specs.declared.fault.EditFault.TheVariants as edits
use Rattle.rb_report.specs.Refusals.{fault_line}
use Rattle.rb_bench.specs.Names.{script_name, edit_name}

-- the fault of a name and a line
abbrev script_named : List ℕ → Option ℕ → ScriptFault
script_named name line =
    if bytes_eq name (codes "TooLong") then scripts.TooLong
    else if bytes_eq name (codes "LineTooLong") then scripts.LineTooLong (unwrap_or line 0)
    else if bytes_eq name (codes "BadLine") then scripts.BadLine (unwrap_or line 0)
    else if bytes_eq name (codes "NoSeparator") then scripts.NoSeparator (unwrap_or line 0)
    else if bytes_eq name (codes "NotClosed") then scripts.NotClosed (unwrap_or line 0)
    else if bytes_eq name (codes "TooManyDirectives") then scripts.TooManyDirectives
    else if bytes_eq name (codes "NotOneBlock") then scripts.NotOneBlock
    else if bytes_eq name (codes "TooManyArguments") then scripts.TooManyArguments (unwrap_or line 0)
    else scripts.OutOfMemory

named_script : (fault : ScriptFault) → script_named (script_name fault) (fault_line fault) ≡ fault
named_script scripts.TooLong = refl
named_script fault = refl

pub script_names : (fault other : ScriptFault) → script_name fault ≡ script_name other → fault_line fault ≡ fault_line other → fault ≡ other
script_names fault other name line =
    sym (named_script fault) ∙ ap (λ (n : List ℕ). script_named n (fault_line fault)) name ∙ ap (script_named (script_name other)) line ∙ named_script other

-- the same of an edit
abbrev edit_named : List ℕ → EditFault
edit_named name =
    if bytes_eq name (codes "NoSuchPlace") then edits.NoSuchPlace
    else if bytes_eq name (codes "BadExpectation") then edits.BadExpectation
    else if bytes_eq name (codes "TooManyDirectives") then edits.TooManyDirectives
    else if bytes_eq name (codes "TooLong") then edits.TooLong
    else edits.OutOfMemory

named_edit : (fault : EditFault) → edit_named (edit_name fault) ≡ fault
named_edit edits.NoSuchPlace = refl
named_edit fault = refl

pub edit_names : (fault other : EditFault) → edit_name fault ≡ edit_name other → fault ≡ other
edit_names fault other name = sym (named_edit fault) ∙ ap edit_named name ∙ named_edit other
