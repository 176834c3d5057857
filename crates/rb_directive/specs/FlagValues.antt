-- The values of flags. (This project's.)
use Rattle.std.specs.Prelude.{ℕ, Bool, Option, Some, None, replicate, slice_set, slice_index_or}
use denote.Enum.Declared.{tag_of}
use Rattle.rb_directive.specs.contracts.argument.Flag.{the_type}
use Rattle.rb_directive.specs.declared.argument.Flag.{Flag}
use Rattle.rb_directive.specs.declared.argument.TheConstants.{FLAGS}
use Rattle.rb_directive.specs.declared.flag_values.FlagValues.{FlagValues}

-- the position of a flag's value is that of its variant
abbrev pub flag_place : Flag → ℕ
flag_place flag = tag_of the_type flag

unfoldable pub no_flags : FlagValues
no_flags = record { values = replicate FLAGS None }

abbrev pub with_value : Flag → Bool → FlagValues → FlagValues
with_value flag value all = record { values = slice_set all.values (flag_place flag) (Some value) }

abbrev pub value_in : FlagValues → Flag → Option Bool
value_in all flag = slice_index_or all.values (flag_place flag) None
