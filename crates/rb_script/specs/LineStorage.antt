-- Where lines are kept: in memory of their own, or as a part of lines that are shared. (This project's.)
use Rattle.std.specs.Prelude.{List}
use Rattle.rb_script.specs.declared.lines.LineStorage.{LineStorage}
use Rattle.rb_script.specs.declared.lines.LineStorage.TheVariants.{Own, Part}
use Rattle.rb_script.specs.Lines.{Line}

abbrev pub stored_lines : LineStorage → List Line
stored_lines (Own own) = own
stored_lines (Part part) = part
