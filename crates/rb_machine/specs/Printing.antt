-- The printed lines of items, one item after another, at the directive's level. (This project's.)
use Rattle.std.specs.Prelude.{List, ◌++◌}
use Rattle.rb_vocab.specs.declared.level.Level.{Level}
use Rattle.rb_texts.specs.Items.{PlainItem}
use Rattle.rb_texts.specs.Texts.{line_of}
use Rattle.rb_machine.specs.declared.printed.PrintedLines.{PrintedLines}

abbrev pub at_level : PrintedLines → Level → PrintedLines
at_level p level = record p { level = level }

abbrev pub with_item : PrintedLines → PlainItem → PrintedLines
with_item p item = record p { lines = p.lines ++ line_of p.level item }
