-- The bytes of a text, in the value itself or in memory of their own. (This project's.)
use Rattle.std.specs.Prelude.{List, ℕ}
use Rattle.rb_script.specs.declared.line_text.TextBytes.{TextBytes}
use Rattle.rb_script.specs.declared.line_text.TextBytes.TheVariants.{Short, Long}

abbrev pub stored_bytes : TextBytes → List ℕ
stored_bytes (Short short) = short
stored_bytes (Long long) = long.items
