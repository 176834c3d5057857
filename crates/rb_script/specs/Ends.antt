-- Where an expectation ends. (This project's profile of the datadriven format.)
use Rattle.std.specs.Prelude.{◌≡◌, false, List, ◌∷◌, ◌++◌}
use Rattle.std.specs.List.{AllByRecursion}
use Rattle.rb_script.specs.Lines.{Line}
use Rattle.rb_script.specs.Marks.{is_blank}
use Rattle.rb_script.specs.Script.{PlainBlock}
use Rattle.rb_script.specs.Reads.{begins_rule}

-- the lines above a block's expectation, and these lines
abbrev pub above : PlainBlock → Line → List Line → List Line
above b separator after = b.lead ++ (b.head ++ (b.input ++ separator ∷ after))

-- lines that the plain form can show: none is blank, and the first isn't ----
pub record CanBePlain (expected : List Line) : Type 0 where
  pub first : begins_rule expected ≡ false
  pub none_blank : AllByRecursion (λ line. is_blank line ≡ false) expected
