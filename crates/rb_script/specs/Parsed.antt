-- Results of parsing a head, compared with its bytes. (This project's.)
use Rattle.std.specs.Prelude.{◌≡◌, ℕ, true, false, nat_le, if◌then◌else◌, List, [], ◌∷◌, ◌++◌, length, map, Option, Some, None, Result, Ok, Err}
use Rattle.std.specs.List.{AllByRecursion}
use Rattle.rb_script.specs.declared.span.Span.{Span}
use Rattle.rb_script.specs.declared.argument.ArgumentSpans.{ArgumentSpans}
use Rattle.rb_script.specs.declared.tokens.Tokens.{Tokens}
use Rattle.rb_script.specs.declared.tokens.HeadFault.{HeadFault}
use Rattle.rb_script.specs.declared.tokens.HeadFault.TheVariants as head_faults
use Rattle.rb_script.specs.declared.fault.ScriptFault.{ScriptFault}
use Rattle.rb_script.specs.declared.limits.TheConstants.{MAX_VALUES}
use Rattle.std.specs.Prelude.{Vec}
use Rattle.smallvec.specs.SmallVec.{SmallVec}
use Rattle.std.specs.declared.alloc.Global.{Global}
use Rattle.rb_script.specs.Lines.{Line}
use Rattle.rb_script.specs.Directive.{PlainArgument}
use Rattle.rb_script.specs.Tokens.{SpannedArgument, token, argument_of, IsPart}
use Rattle.rb_script.specs.Limits.{has_few_values, are_few}
use Rattle.rb_script.specs.Results.{Fails}
use Rattle.rb_script.specs.Heads.{ValuesThere, ArgumentThere, ArgumentsThere}

-- one more item, or nothing if there are enough
abbrev pub with_one : {T : Type 0} → ℕ → Option (List T) → T → Option (List T)
with_one most None item = None
with_one most (Some items) item = if nat_le most (length items) then None else Some (items ++ item ∷ [])

-- ---- values

-- the kept values are these, each a part of a line, or these are too many
abbrev pub KeepsValues : List Line → Option (Vec Span Global) → List (List ℕ) → Type 0
KeepsValues head None values = nat_le (length values) MAX_VALUES ≡ false
KeepsValues head (Some kept) values = (map (token head) kept.items ≡ values) × (nat_le (length values) MAX_VALUES ≡ true) × AllByRecursion (IsPart head) kept.items

abbrev pub ParsesValues : List Line → Result (Option (Vec Span Global)) HeadFault → List ℕ → ValuesThere → Type 0
ParsesValues head (Ok kept) left there = (values : List (List ℕ)) × (there ≡ Some (values, left)) × KeepsValues head kept values
ParsesValues head (Err head_faults.Bad) left there = there ≡ None
ParsesValues head (Err head_faults.OutOfMemory) left there = Unit {0}

-- ---- arguments

abbrev pub spanned : ArgumentSpans → SpannedArgument
spanned a = record { key = a.key; has_equals = a.has_equals; values = a.values.items }

-- each token is a part of a line
abbrev pub AreParts : List Line → SpannedArgument → Type 0
AreParts head a = IsPart head a.key × AllByRecursion (IsPart head) a.values

-- the kept argument is this one, or this has too many values
abbrev pub KeepsArgument : List Line → Option ArgumentSpans → PlainArgument → Type 0
KeepsArgument head None a = has_few_values a ≡ false
KeepsArgument head (Some kept) a = (argument_of head (spanned kept) ≡ a) × (has_few_values a ≡ true) × AreParts head (spanned kept)

abbrev pub ParsesArgument : List Line → Result (Option ArgumentSpans) HeadFault → List ℕ → ArgumentThere → Type 0
ParsesArgument head (Ok kept) left there = (a : PlainArgument) × (there ≡ Some (a, left)) × KeepsArgument head kept a
ParsesArgument head (Err head_faults.Bad) left there = there ≡ None
ParsesArgument head (Err head_faults.OutOfMemory) left there = Unit {0}

-- the kept arguments are these, or these are too many
abbrev pub KeepsArguments : List Line → Option (SmallVec ArgumentSpans) → List PlainArgument → Type 0
KeepsArguments head None args = are_few args ≡ false
KeepsArguments head (Some kept) args = (map (λ a. argument_of head (spanned a)) kept.items ≡ args) × (are_few args ≡ true) × AllByRecursion (λ a. AreParts head (spanned a)) kept.items

abbrev pub ParsesArguments : List Line → Result (Option (SmallVec ArgumentSpans)) HeadFault → ArgumentsThere → Type 0
ParsesArguments head (Ok kept) there = (args : List PlainArgument) × (there ≡ Some args) × KeepsArguments head kept args
ParsesArguments head (Err head_faults.Bad) there = there ≡ None
ParsesArguments head (Err head_faults.OutOfMemory) there = Unit {0}

-- ---- the head

-- where the tokens are, as lists of bytes
abbrev pub texts : List Line → Tokens → List ℕ × List PlainArgument
texts head t = (token head t.name, map (λ a. argument_of head (spanned a)) t.args.items)

abbrev pub TokensAreParts : List Line → Tokens → Type 0
TokensAreParts head t = IsPart head t.name × AllByRecursion (λ a. AreParts head (spanned a)) t.args.items

abbrev pub ParsesHead : List Line → Result Tokens ScriptFault → Result (List ℕ × List PlainArgument) ScriptFault → Type 0
ParsesHead head (Ok t) there = (there ≡ Ok (texts head t)) × TokensAreParts head t
ParsesHead head (Err e) there = Fails e there
