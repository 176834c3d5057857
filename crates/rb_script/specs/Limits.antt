-- The limits of scripts, under the names of the constants. (This project's.)
use Rattle.std.specs.Prelude.{Bool, ◌&&◌, nat_le, List, length}
use Rattle.std.specs.List.{list_all}
use Rattle.rb_script.specs.declared.limits.TheConstants.{MAX_ARGUMENTS, MAX_VALUES}
use Rattle.rb_script.specs.Directive.{PlainArgument}

abbrev pub has_few_values : PlainArgument → Bool
has_few_values a = nat_le (length a.values) MAX_VALUES

abbrev pub are_few : List PlainArgument → Bool
are_few args = nat_le (length args) MAX_ARGUMENTS && list_all has_few_values args
