-- A directive's head on one line, as a script can have it. (This project's; the grammar is the script format's.)
use Rattle.std.specs.Prelude.{ℕ, ◌+◌, ◌==◌, if◌then◌else◌, List, [], ◌∷◌, ◌++◌, codes}
use Rattle.std.specs.List.{flat_map}
use Rattle.rb_script.specs.Directive.{PlainArgument, PlainDirective}

-- the text before the value at an index, counted from 0
abbrev pub before_value : ℕ → List ℕ
before_value i = if i == 0 then [] else codes ","

-- values from an index on, separated by commas
abbrev pub listed : ℕ → List (List ℕ) → List ℕ
listed i [] = []
listed i (v ∷ vs) = before_value i ++ (v ++ listed (i + 1) vs)

-- one value alone, and none or several in parentheses
abbrev pub values_text : List (List ℕ) → List ℕ
values_text [] = codes "()"
values_text (v ∷ []) = v
values_text (v ∷ w ∷ vs) = codes "(" ++ (listed 0 (v ∷ w ∷ vs) ++ codes ")")

-- an argument, after a blank
abbrev pub argument_text : PlainArgument → List ℕ
argument_text a = codes " " ++ (a.key ++ (if a.has_equals then codes "=" ++ values_text a.values else []))

abbrev pub arguments_text : List PlainArgument → List ℕ
arguments_text args = flat_map argument_text args

-- the name and the arguments
abbrev pub head_text : PlainDirective → List ℕ
head_text d = d.name ++ arguments_text d.args
