-- The words and options of a directive that are ids of nodes, by the table. (This project's.)
use Rattle.std.specs.Prelude.{ℕ, ◌+◌, Bool, true, false, if◌then◌else◌, List, Option, Some, None}
use Rattle.rb_directive.specs.declared.argument.Argument.{Argument}
use Rattle.rb_directive.specs.declared.argument.Argument.TheVariants as arguments
use Rattle.rb_directive.specs.declared.argument.Number.{Number}
use Rattle.rb_directive.specs.declared.argument.Number.TheVariants as numbers
use Rattle.rb_directive.specs.declared.limits.TheConstants.{MAX_IDS}
use Rattle.rb_directive.specs.declared.table.Row.{Row}
use Rattle.rb_directive.specs.Table.{directives, row_in, option_of}

-- a number that is an id
abbrev pub is_id : Number → Bool
is_id numbers.Id = true
is_id numbers.Peer = true
is_id numbers.From = true
is_id numbers.To = true
is_id number = false

-- an argument with one id or several
abbrev pub has_ids : Argument → Bool
has_ids (arguments.Number number least most) = is_id number
has_ids (arguments.Ids list other) = true
has_ids argument = false

-- the number of ids at the front: this word, and those after it
abbrev pub with_word : Option Argument → ℕ → ℕ
with_word None n = 0
with_word (Some argument) n = if has_ids argument then 1 + n else 0

-- the number of a directive's first words that are ids; `MAX_IDS` if it takes any number of them
abbrev pub ids_of : Row → ℕ
ids_of row = if row.takes_ids then MAX_IDS else with_word row.first (with_word row.second 0)

abbrev pub ids_by : Option Row → ℕ
ids_by None = 0
ids_by (Some row) = ids_of row

-- of the directive with this name
unfoldable pub id_words : List ℕ → ℕ
id_words name = ids_by (row_in directives name)

abbrev pub is_of_ids : Option Argument → Bool
is_of_ids None = false
is_of_ids (Some option) = has_ids option

-- the values of the option with this key are ids, where the directive of this name takes it
unfoldable pub takes_id : List ℕ → List ℕ → Bool
takes_id name key = is_of_ids (option_of name key)
