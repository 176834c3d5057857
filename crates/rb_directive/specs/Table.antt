-- Lookups in the table of directives: a directive by name, an option by key, a word by position. (This project's; directives of etcd
-- raft's interaction tests have their names.)
use Rattle.std.specs.Prelude.{ℕ, Bool, ◌&&◌, ◌||◌, not, is_some, if◌then◌else◌, codes, List, [], ◌∷◌, Option, Some, None}
use Rattle.std.specs.List.{list_any}
use Rattle.std.specs.Str.{bytes_eq}
use Rattle.rb_script.specs.Directive.{PlainArgument}
use Rattle.rb_directive.specs.declared.table.Row.{Row}
use Rattle.rb_directive.specs.declared.table.OptionRow.{OptionRow}
use Rattle.rb_directive.specs.declared.arguments.WordPlace.{WordPlace}
use Rattle.rb_directive.specs.declared.arguments.WordPlace.TheVariants as places
use Rattle.rb_directive.specs.declared.table.TheConstants.{DIRECTIVES, OPTIONS}
use Rattle.rb_directive.specs.declared.argument.Argument.{Argument}
use Rattle.rb_directive.specs.declared.argument.Argument.TheVariants as arguments
use Rattle.rb_directive.specs.declared.argument.LevelFor.TheVariants as levels
use Rattle.rb_directive.specs.declared.argument.Ids.TheVariants as lists
use Rattle.rb_directive.specs.Names.{name_text, argument_text}

-- the rows of all directives
unfoldable pub directives : List Row
directives = DIRECTIVES

-- the options of all directives
unfoldable pub options : List OptionRow
options = OPTIONS

-- the row with this name
abbrev pub row_in : List Row → List ℕ → Option Row
row_in [] name = None
row_in (row ∷ rows) name = if bytes_eq (name_text row.name) name then Some row else row_in rows name

-- a directive has this name
abbrev pub is_name : List ℕ → Bool
is_name name = list_any (λ (row : Row). bytes_eq (name_text row.name) name) directives

-- the option with this key that the directive of this name has among these
abbrev pub option_in : List OptionRow → List ℕ → List ℕ → Option Argument
option_in [] name key = None
option_in (row ∷ rows) name key = if bytes_eq (argument_text row.option) key && bytes_eq (name_text row.name) name then Some row.option else option_in rows name key

-- each directive has `log-level`
unfoldable pub option_of : List ℕ → List ℕ → Option Argument
option_of name key = if bytes_eq key (codes "log-level") then Some (arguments.Level levels.Directive) else option_in options name key

-- the first option with this key among these
abbrev pub with_key : List OptionRow → List ℕ → Option Argument
with_key [] key = None
with_key (row ∷ rows) key = if bytes_eq (argument_text row.option) key then Some row.option else with_key rows key

-- the option with this key, of whichever directive
unfoldable pub argument_of : List ℕ → Option Argument
argument_of key = if bytes_eq key (codes "log-level") then Some (arguments.Level levels.Directive) else with_key options key

abbrev pub after : WordPlace → WordPlace
after places.First = places.Second
after places.Second = places.Later
after places.Later = places.Later

abbrev pub word_at : Row → WordPlace → Option Argument
word_at row places.First = row.first
word_at row places.Second = row.second
word_at row places.Later = None

-- the word at a position
abbrev pub word_of : Row → WordPlace → Option Argument
word_of row place = if row.takes_ids then Some (arguments.Ids lists.Nodes None) else word_at row place

-- the argument is a word, or an option that the directive of this name takes
abbrev pub has_option : List ℕ → PlainArgument → Bool
has_option name a = not a.has_equals || is_some (option_of name a.key)
