-- What was probably meant by a directive that is refused. (This project's.)
use Rattle.std.specs.Prelude.{◌==◌, Bool, ◌&&◌, not, length, if◌then◌else◌, List, [], ◌∷◌, ◌++◌, codes, Option, None, Result, Ok, Err}
use Rattle.std.specs.List.{list_any}
use Rattle.std.specs.Str.{bytes_eq}
use Rattle.rb_script.specs.Directive.{PlainArgument, PlainDirective}
use Rattle.rb_vocab.specs.declared.directive_error.DirectiveError.{DirectiveError}
use Rattle.rb_vocab.specs.declared.directive_error.DirectiveError.TheVariants as errors
use Rattle.rb_directive.specs.declared.build.Asked.{Asked}
use Rattle.rb_directive.specs.Requests.{request}
use Rattle.rb_report.specs.Hints.{PlainHint, meant_or}
use Rattle.rb_report.specs.Manual.{pages, keys}
use Rattle.rb_report.specs.Choices.{levels, choices_of}
use Rattle.rb_report.specs.Distance.{Word}
use Rattle.rb_report.specs.Forms.{form_of_fault, missing}
use Rattle.rb_report.specs.Nearest.{names_of, keys_of, nearest}

-- the word is one of these
abbrev pub is_among : Word → List Word → Bool
is_among word cs = list_any (λ c. bytes_eq c word) cs

-- the first value that is not one of the choices, and the choice that is nearest to it
abbrev pub of_values : List Word → List Word → Option Word
of_values cs [] = None
of_values cs (v ∷ vs) = if is_among v cs then of_values cs vs else nearest v cs

-- a word, which is the name of a level after `log-level` only
abbrev pub of_word : Word → Word → Option Word
of_word name word = if bytes_eq name (codes "log-level") then nearest word levels else None

-- an argument of the directive with this name: an option has a wrong value
abbrev pub of_argument : Word → PlainArgument → Option Word
of_argument name a = if a.has_equals then of_values (choices_of a.key) a.values else of_word name a.key

-- the first of the arguments with this key
abbrev pub of_arguments : Word → Word → List PlainArgument → Option Word
of_arguments name key [] = None
of_arguments name key (a ∷ args) = if bytes_eq a.key key then of_argument name a else of_arguments name key args

-- the first of the values that is none of the choices
abbrev pub wrong_value : List Word → List Word → Word
wrong_value cs [] = []
wrong_value cs (v ∷ vs) = if is_among v cs then wrong_value cs vs else v

-- of an option that takes some values alone the wrong value, and else the key
abbrev pub wrong_part : PlainArgument → Word
wrong_part a = if a.has_equals && not (length (choices_of a.key) == 0) then wrong_value (choices_of a.key) a.values else a.key

abbrev pub wrong_in : Word → List PlainArgument → Word
wrong_in key [] = []
wrong_in key (a ∷ args) = if bytes_eq a.key key then wrong_part a else wrong_in key args

-- the word for which a directive is refused
abbrev pub wrong_by : PlainDirective → DirectiveError → Word
wrong_by d (errors.UnknownDirective name) = d.name
wrong_by d (errors.UnsupportedOption key) = wrong_in key d.args
wrong_by d (errors.BadArgument key) = wrong_in key d.args
wrong_by d other = []

-- what is meant by the name, by the key of an option, or by an argument
abbrev pub of_fault : PlainDirective → DirectiveError → Option Word
of_fault d (errors.UnknownDirective name) = nearest name (names_of pages)
of_fault d (errors.UnsupportedOption key) = nearest key (keys_of d.name keys ++ codes "log-level" ∷ [])
of_fault d (errors.BadArgument key) = of_arguments d.name key d.args
of_fault d other = None

-- the word in the place of one that is wrong
abbrev pub word_of_reading : PlainDirective → Result Asked DirectiveError → Option Word
word_of_reading d (Ok asked) = None
word_of_reading d (Err fault) = of_fault d fault

unfoldable pub suggested_word : PlainDirective → Option Word
suggested_word d = word_of_reading d (request d)

abbrev pub wrong_of_reading : PlainDirective → Result Asked DirectiveError → Word
wrong_of_reading d (Ok asked) = []
wrong_of_reading d (Err fault) = wrong_by d fault

-- the word in whose place it is to stand
unfoldable pub wrong_word : PlainDirective → Word
wrong_word d = wrong_of_reading d (request d)

-- that word; if none is near, how the directive is written
abbrev pub of_reading : PlainDirective → Result Asked DirectiveError → PlainHint
of_reading d (Ok asked) = missing d
of_reading d (Err fault) = meant_or (form_of_fault d fault) (of_fault d fault)

unfoldable pub suggested : PlainDirective → PlainHint
suggested d = of_reading d (request d)
