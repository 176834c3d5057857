-- Reading the arguments of a directive from left to right, to their values or the first fault. (This project's.)
use Rattle.std.specs.Prelude.{ℕ, Bool, if◌then◌else◌, List, [], ◌∷◌, length, Option, Some, None, Result, Ok, Err}
use Rattle.std.specs.Option.{option_map, option_and_then}
use Rattle.rb_script.specs.Directive.{PlainArgument}
use Rattle.rb_text.specs.Numbers.{number_of}
use Rattle.rb_vocab.specs.Levels.{level_of}
use Rattle.rb_vocab.specs.declared.level.Level.{Level}
use Rattle.rb_vocab.specs.declared.change.Transition.{Transition}
use Rattle.rb_vocab.specs.declared.directive_error.DirectiveError.{DirectiveError}
use Rattle.rb_vocab.specs.declared.directive_error.DirectiveError.TheVariants as errors
use Rattle.rb_directive.specs.declared.table.Row.{Row}
use Rattle.rb_directive.specs.declared.arguments.Arguments.{Arguments}
use Rattle.rb_directive.specs.declared.argument.Argument.{Argument}
use Rattle.rb_directive.specs.declared.argument.Argument.TheVariants as arguments
use Rattle.rb_directive.specs.declared.argument.Ids.{Ids}
use Rattle.rb_directive.specs.Names.{name_text}
use Rattle.rb_directive.specs.Table.{option_of, after, word_of}
use Rattle.rb_directive.specs.Forms.{Word, is_within, within, flag_of, transition_of}
use Rattle.rb_directive.specs.IdLists.{with_ids}
use Rattle.rb_directive.specs.TypeSets.{with_types, no_types}
use Rattle.rb_directive.specs.Arguments.{is_given, listed, excludes, number_set, flag_set, bytes_set, level_set, ids_set}

-- ---- the value of one argument

-- the words of an argument: the values of an option, or the word itself
abbrev pub argument_words : PlainArgument → List Word
argument_words a = if a.has_equals then a.values else a.key ∷ []

-- the word, if there is exactly one
abbrev pub only : List Word → Option Word
only [] = None
only (w ∷ []) = Some w
only (w ∷ other ∷ words) = None

-- the number, from `low` to `high`
abbrev pub number_value : ℕ → ℕ → List Word → Option ℕ
number_value low high words = option_and_then (λ w. within low high (number_of w)) (only words)

-- the bytes, from `low` to `high` of them
abbrev pub bytes_value : ℕ → ℕ → List Word → Option Word
bytes_value low high words = option_and_then (λ w. if is_within low high (length w) then Some w else None) (only words)

abbrev pub level_value : List Word → Option Level
level_value words = option_and_then level_of (only words)

abbrev pub flag_value : List Word → Option Bool
flag_value words = option_and_then flag_of (only words)

abbrev pub transition_value : List Word → Option Transition
transition_value words = option_and_then transition_of (only words)

-- ids that have none in common with the other list
abbrev pub ids_kept : Ids → Option Ids → Arguments → Option (List ℕ) → Option Arguments
ids_kept which other g None = None
ids_kept which other g (Some ids) = if excludes other ids g then None else Some (ids_set which ids g)

-- adds these words as this argument; `None` if it doesn't allow them
abbrev pub taken : Argument → List Word → Arguments → Option Arguments
taken (arguments.Number which low high) words g = option_map (λ n. number_set which n g) (number_value low high words)
taken (arguments.Bytes which low high) words g = option_map (λ w. bytes_set which w g) (bytes_value low high words)
taken (arguments.Level which) words g = option_map (λ l. level_set which l g) (level_value words)
taken (arguments.Flag which) words g = option_map (λ b. flag_set which b g) (flag_value words)
taken arguments.Transition words g = option_map (λ t. record g { transition = Some t }) (transition_value words)
taken arguments.Types words g = option_map (λ types. record g { types = Some types }) (with_types words (Some no_types))
taken (arguments.Ids which other) words g = ids_kept which other g (with_ids words (Some (listed which g)))

abbrev pub or_bad : Word → Option Arguments → Result Arguments DirectiveError
or_bad key None = Err (errors.BadArgument key)
or_bad key (Some g) = Ok g

-- refuses an option that the directive lacks, that is repeated, or whose values aren't allowed
abbrev pub with_option : Option Argument → PlainArgument → Arguments → Result Arguments DirectiveError
with_option None a g = Err (errors.UnsupportedOption a.key)
with_option (Some argument) a g = or_bad a.key (if is_given argument g then None else taken argument (argument_words a) g)

-- refuses a word that isn't allowed there, or one too many
abbrev pub with_word : Option Argument → PlainArgument → Arguments → Result Arguments DirectiveError
with_word None a g = Err (errors.BadArgument a.key)
with_word (Some argument) a g = or_bad a.key (taken argument (argument_words a) (record g { next = after g.next }))

-- adds an argument
abbrev pub with_argument : Row → PlainArgument → Arguments → Result Arguments DirectiveError
with_argument row a g =
    if a.has_equals then with_option (option_of (name_text row.name) a.key) a g
    else with_word (word_of row g.next) a g

-- ---- all arguments

-- adds all arguments, or reports the first fault
abbrev pub with_arguments : Row → List PlainArgument → Result Arguments DirectiveError → Result Arguments DirectiveError
with_arguments row args (Err e) = Err e
with_arguments row [] (Ok g) = Ok g
with_arguments row (a ∷ args) (Ok g) = with_arguments row args (with_argument row a g)
