-- Lines of help: what an option takes, and what a value means. (docs/SCRIPTS.md.)
use Rattle.std.specs.Prelude.{if◌then◌else◌, List, [], ◌∷◌, Option, Some, None, map}
use Rattle.std.specs.Str.{bytes_eq}
use Rattle.rb_vocab.specs.declared.message_type.MessageType.{MessageType}
use Rattle.rb_vocab.specs.MessageTypes.{meaning_of, type_of}
use Rattle.rb_report.specs.declared.help.options.TheConstants.{OPTION_LINES}
use Rattle.rb_report.specs.declared.help.values.TheConstants.{VALUE_LINES}
use Rattle.rb_report.specs.Distance.{Word}
use Rattle.rb_report.specs.Manual.{Key}

unfoldable pub option_lines : List Key
option_lines = map (λ r. (r.0.now, r.1.now)) OPTION_LINES

unfoldable pub value_lines : List Key
value_lines = map (λ r. (r.0.now, r.1.now)) VALUE_LINES

-- the line on a word; an empty one if there is none
abbrev pub line_among : Word → List Key → Word
line_among word [] = []
line_among word (r ∷ rows) = if bytes_eq r.0 word then r.1 else line_among word rows

unfoldable pub option_line : Word → Word
option_line key = line_among key option_lines

-- of a type of message what its messages are, of any other value its own line
abbrev pub line_or : Option MessageType → Word → Word
line_or (Some t) value = meaning_of t
line_or None value = line_among value value_lines

unfoldable pub value_line : Word → Word
value_line value = line_or (type_of value) value
