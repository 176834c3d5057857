-- Sets of message types: for each type, by its number, whether the set has it. (This project's.)
use Rattle.std.specs.Prelude.{Bool, true, false, List, [], ◌∷◌, Option, Some, None, replicate, slice_set, slice_index_or}
use Rattle.std.specs.Option.{option_and_then}
use Rattle.rb_vocab.specs.declared.message_type.MessageType.{MessageType}
use Rattle.rb_vocab.specs.declared.message_type.TheConstants.{TYPES}
use Rattle.rb_vocab.specs.MessageTypes.{type_number, type_of}
use Rattle.rb_directive.specs.declared.type_set.TypeSet.{TypeSet}
use Rattle.rb_directive.specs.Forms.{Word}

unfoldable pub no_types : TypeSet
no_types = record { has = replicate TYPES false }

abbrev pub with_type : MessageType → TypeSet → TypeSet
with_type t set = record { has = slice_set set.has (type_number t) true }

abbrev pub has_type : TypeSet → MessageType → Bool
has_type set t = slice_index_or set.has (type_number t) false

abbrev pub with_named : Option MessageType → TypeSet → Option TypeSet
with_named None set = None
with_named (Some t) set = Some (with_type t set)

-- adds the types that the words name; `None` if a word isn't a type
abbrev pub with_types : List Word → Option TypeSet → Option TypeSet
with_types [] set = set
with_types (w ∷ words) set = with_types words (option_and_then (with_named (type_of w)) set)
