-- Reading the head of a block, from its first byte on. (This project's profile of the datadriven format.)
use Rattle.std.specs.Prelude.{ℕ, zero, suc, Bool, true, false, if◌then◌else◌, List, [], ◌∷◌, length, drop, Option, Some, None, Result, Ok, Err}
use Rattle.rb_script.specs.declared.fault.ScriptFault.{ScriptFault}
use Rattle.rb_script.specs.declared.fault.ScriptFault.TheVariants.{BadLine, TooManyArguments}
use Rattle.rb_script.specs.Bytes.{opening, closing, equals_sign}
use Rattle.rb_script.specs.Lines.{Line}
use Rattle.rb_script.specs.Marks.{is_blank, is_space}
use Rattle.rb_script.specs.Script.{PlainBlock}
use Rattle.rb_script.specs.Joined.{joined}
use Rattle.rb_script.specs.Runs.{while_of, after_while}
use Rattle.rb_script.specs.Directive.{PlainArgument, PlainDirective, is_word, is_value, is_inside, pieces, begins, is_some_piece}
use Rattle.rb_script.specs.Limits.{are_few}

-- values and the bytes after them, if they are there
abbrev pub ValuesThere : Type 0
ValuesThere = Option (List (List ℕ) × List ℕ)

-- an argument and the bytes after it, if one is there
abbrev pub ArgumentThere : Type 0
ArgumentThere = Option (PlainArgument × List ℕ)

abbrev pub begins_space : List ℕ → Bool
begins_space [] = false
begins_space (b ∷ bytes) = is_space b

-- the values up to the closing parenthesis
unfoldable pub list_at : List ℕ → ValuesThere
list_at bytes = if begins closing (after_while is_inside bytes) then Some (pieces (while_of is_inside bytes), drop 1 (after_while is_inside bytes)) else None

-- the values after a `=`: those within parentheses, or the one that is there
unfoldable pub values_at : List ℕ → ValuesThere
values_at bytes = if begins opening bytes then list_at (drop 1 bytes) else Some (while_of is_value bytes ∷ [], after_while is_value bytes)

abbrev pub with_key : List ℕ → ValuesThere → ArgumentThere
with_key key None = None
with_key key (Some found) = Some (record { key = key; has_equals = true; values = found.0 }, found.1)

unfoldable pub after_key : List ℕ → List ℕ → ArgumentThere
after_key key bytes = if begins equals_sign bytes then with_key key (values_at (drop 1 bytes)) else Some (record { key = key; has_equals = false; values = [] }, bytes)

unfoldable pub argument_at : List ℕ → ArgumentThere
argument_at bytes = if is_some_piece (while_of is_word bytes) then after_key (while_of is_word bytes) (after_while is_word bytes) else None

abbrev pub ArgumentsThere : Type 0
ArgumentsThere = Option (List PlainArgument)

-- the argument is before the others
abbrev pub before : PlainArgument → ArgumentsThere → ArgumentsThere
before a None = None
before a (Some others) = Some (a ∷ others)

abbrev pub then_arguments : ArgumentThere → (List ℕ → ArgumentsThere) → ArgumentsThere
then_arguments None others = None
then_arguments (Some found) others = before found.0 (others found.1)

-- The arguments, each after a blank, up to the end. The number bounds how many there can be.
unfoldable pub arguments_at : ℕ → List ℕ → ArgumentsThere
arguments_at zero bytes = if is_blank bytes then Some [] else None
arguments_at (suc most) bytes =
    if is_blank bytes then Some []
    else (if begins_space bytes then then_arguments (argument_at (after_while is_space bytes)) (arguments_at most) else None)

-- the name and the arguments of a joined head, if it is in the grammar
abbrev pub HeadThere : Type 0
HeadThere = Option (List ℕ × List PlainArgument)

abbrev pub named : List ℕ → ArgumentsThere → HeadThere
named name None = None
named name (Some args) = Some (name, args)

-- a name at the front
unfoldable pub word_head : List ℕ → HeadThere
word_head bytes =
    if is_some_piece (while_of is_word bytes) then named (while_of is_word bytes) (arguments_at (length (after_while is_word bytes)) (after_while is_word bytes)) else None

unfoldable pub head_at : List ℕ → HeadThere
head_at bytes = word_head (after_while is_space bytes)

-- the head of a block at this line
abbrev pub few_or : ℕ → HeadThere → Result (List ℕ × List PlainArgument) ScriptFault
few_or n None = Err (BadLine n)
few_or n (Some head) = if are_few head.1 then Ok head else Err (TooManyArguments n)

-- the directive of a block
abbrev pub with_inputs : List Line → HeadThere → PlainDirective
with_inputs inputs None = record { name = []; args = []; inputs = inputs }
with_inputs inputs (Some head) = record { name = head.0; args = head.1; inputs = inputs }

unfoldable pub directive_of : PlainBlock → PlainDirective
directive_of b = with_inputs b.input (head_at (joined b.head))
