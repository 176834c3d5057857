-- Reading an expectation, in either form, from its first line on. (This project's profile of the datadriven format.)
use Rattle.std.specs.Prelude.{◌&&◌, if◌then◌else◌, List, [], ◌∷◌, drop, Option, Some, None}
use Rattle.rb_script.specs.Lines.{Line}
use Rattle.rb_script.specs.Marks.{is_blank, is_plain, is_rule}
use Rattle.rb_script.specs.Reads.{is_readable, begins_rule}
use Rattle.rb_script.specs.Runs.{while_of, after_while}

-- an expectation and the lines after it, if it is closed
abbrev pub Expectation : Type 0
Expectation = Option (List Line × List Line)

abbrev pub with_line : Line → Expectation → Expectation
with_line line None = None
with_line line (Some found) = Some (line ∷ found.0, found.1)

-- up to the first pair of lines ----
unfoldable pub to_pair : List Line → Expectation
to_pair [] = None
to_pair (line ∷ ls) = if is_rule line && begins_rule ls then Some ([], drop 1 ls) else with_line line (to_pair ls)

abbrev pub after_blank : List Line → List Line
after_blank [] = []
after_blank (line ∷ ls) = if is_blank line then ls else line ∷ ls

abbrev pub then_blank : Expectation → Expectation
then_blank None = None
then_blank (Some found) = Some (found.0, after_blank found.1)

unfoldable pub plain_at : List Line → Expectation
plain_at ls = if is_readable (while_of is_plain ls) then Some (while_of is_plain ls, after_blank (after_while is_plain ls)) else None

unfoldable pub expectation_at : List Line → Expectation
expectation_at ls = if begins_rule ls then then_blank (to_pair (drop 1 ls)) else plain_at ls
