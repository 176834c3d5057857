-- The values of which an argument takes one. (This project's; the types are etcd raft's.)
use Rattle.std.specs.Prelude.{List, [], Option, Some, map}
use Rattle.rb_vocab.specs.MessageTypes.{all_types, type_text}
use Rattle.rb_directive.specs.declared.argument.Argument.{Argument}
use Rattle.rb_directive.specs.declared.argument.Argument.TheVariants as arguments
use Rattle.rb_directive.specs.Table.{argument_of}
use Rattle.rb_report.specs.declared.help.choices.TheConstants.{LEVELS, FLAGS, TRANSITIONS}
use Rattle.rb_report.specs.Distance.{Word}

abbrev pub levels : List Word
levels = map (λ c. c.now) LEVELS

abbrev pub flags : List Word
flags = map (λ c. c.now) FLAGS

abbrev pub transitions : List Word
transitions = map (λ c. c.now) TRANSITIONS

abbrev pub types : List Word
types = map type_text all_types

-- those that an argument allows; none, if it allows others too
abbrev pub choices_for : Option Argument → List Word
choices_for (Some (arguments.Level which)) = levels
choices_for (Some (arguments.Flag which)) = flags
choices_for (Some arguments.Transition) = transitions
choices_for (Some arguments.Types) = types
choices_for argument = []

-- those of the option with this key
abbrev pub choices_of : Word → List Word
choices_of key = choices_for (argument_of key)
