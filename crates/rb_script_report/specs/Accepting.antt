-- What a script expects once outputs of it are accepted, and what stays as it was. (This project's.)
use Rattle.std.specs.Prelude.{ℕ, ◌==◌, nat_le, Bool, true, ◌&&◌, ◌||◌, not, if◌then◌else◌, List, [], ◌∷◌}
use Rattle.std.specs.List.{list_any}
use Rattle.rb_script.specs.Lines.{Line}
use Rattle.rb_script.specs.Script.{PlainBlock, PlainScript, with_outputs}
use Rattle.rb_replay.specs.Run.{outputs}
use Rattle.rb_replay.specs.Report.{same_lines}
use Rattle.rb_report.specs.Notices.{left_text}
use Rattle.rb_script_report.specs.declared.accept_options.AcceptFilter.{AcceptFilter}
use Rattle.rb_script_report.specs.declared.accept_options.AcceptFilter.TheVariants as picks
use Rattle.rb_script_report.specs.declared.accept_options.AcceptOptions.{AcceptOptions}
use Rattle.rb_script_report.specs.Errors.{first_line, is_unexpected}
use Rattle.rb_script_report.specs.Checked.{head_of, of_each}

-- whether the directive is picked whose head begins on the line
abbrev pub is_picked : AcceptFilter → ℕ → Bool
is_picked picks.All line = true
is_picked (picks.Heads heads) line = list_any (λ head. head == line) heads.now
is_picked (picks.UpTo last) line = nat_le line last

-- whether an output that isn't the expected one is not accepted, of a head that begins on the line: the directive isn't picked, or it is an
-- error that isn't said to be expected
abbrev pub is_left : AcceptOptions → List Line → ℕ → PlainBlock → List Line → Bool
is_left wanted ls line b output =
    (not (is_picked wanted.picked line) || (not wanted.errors && is_unexpected ls line output)) && not (same_lines b.expected output)

-- what the directive expects then
abbrev pub accepted_lines : AcceptOptions → List Line → ℕ → PlainBlock → List Line → List Line
accepted_lines wanted ls line b output = if is_left wanted ls line b output then b.expected else output

-- what directives expect then, whose heads begin on these lines
abbrev pub accepted_of : AcceptOptions → List Line → List ℕ → List PlainBlock → List (List Line) → List (List Line)
accepted_of wanted ls heads bs os = of_each (λ line b output. accepted_lines wanted ls line b output ∷ []) heads bs os

-- the script then
abbrev pub accepted : AcceptOptions → List Line → List ℕ → PlainScript → PlainScript
accepted wanted ls heads s = with_outputs s (accepted_of wanted ls heads s.blocks (outputs s))

-- ---- what is left

-- the line of the head, where its output is not accepted
abbrev pub one_left : AcceptOptions → List Line → ℕ → PlainBlock → List Line → List ℕ
one_left wanted ls line b output = if is_left wanted ls line b output then line ∷ [] else []

-- the lines of the heads whose outputs are not accepted
abbrev pub left_heads : AcceptOptions → List Line → List ℕ → List PlainBlock → List (List Line) → List ℕ
left_heads wanted ls heads bs os = of_each (λ line b output. one_left wanted ls line b output) heads bs os

-- ---- where no directive is named

-- all of them, up to the first whose output is not accepted
abbrev pub up_to_first : List ℕ → AcceptFilter
up_to_first [] = picks.All
up_to_first (line ∷ heads) = picks.UpTo line

-- what is picked, where new errors are accepted too or not: below a new error that is not accepted nothing is, since it may follow from it
abbrev pub picked_unnamed : Bool → List Line → List ℕ → PlainScript → AcceptFilter
picked_unnamed errors ls heads s = up_to_first (left_heads (record { picked = picks.All; errors = errors }) ls heads s.blocks (outputs s))

-- ---- what is said of it

-- what is said of one that was picked
abbrev pub left_shown : AcceptOptions → List Line → List ℕ → ℕ → PlainBlock → List Line → List ℕ
left_shown wanted ls path line b output = if is_picked wanted.picked line && is_left wanted ls line b output then left_text path line (head_of b) (first_line output) else []

-- what is said of all
abbrev pub all_left : AcceptOptions → List Line → List ℕ → List ℕ → List PlainBlock → List (List Line) → List ℕ
all_left wanted ls path heads bs os = of_each (λ line b output. left_shown wanted ls path line b output) heads bs os
