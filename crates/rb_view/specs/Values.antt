-- The rows that the text of a script's steps is, as its value. (This project's.)
use Rattle.std.specs.Prelude.{◌≡◌, ℕ, true, List, [], ◌∷◌, ◌++◌}
use Rattle.std.specs.List.{AllByRecursion, flat_map, list_all}
use Rattle.rb_raftlog.specs.Content.{content_end}
use Rattle.rb_script.specs.Reading.{directive_of}
use Rattle.rb_script.specs.Directive.{PlainDirective}
use Rattle.rb_script.specs.Script.{PlainBlock, PlainScript}
use Rattle.rb_node.specs.Node.{PlainNode}
use Rattle.rb_view.specs.Json.{is_byte}
use Rattle.rb_script_report.specs.Checked.{meant_by}
use Rattle.rb_view.specs.Meant.{IsOfBytes}
use Rattle.rb_view.specs.Rows.{Row}
use Rattle.rb_machine.specs.Cluster.{Cluster}
use Rattle.rb_machine.specs.Outcome.{execution, outcome}
use Rattle.rb_view.specs.Watching.{observed_rows, shows_bytes}
use Rattle.rb_view.specs.Steps.{Step, hints, script_rows, source_row, end_row, steps, warning_rows}

-- the rows of a step
abbrev pub step_rows : Step → List Row
step_rows s = script_rows s.left s.line s.block.expected s.output ++ (observed_rows s.before s.observed ++ (s.changes ++ hints s))

-- the rows after the first: the bytes of a script, its steps, what is probably a mistake, and how many there are
abbrev pub all_rows : List ℕ → List ℕ → PlainScript → List Row
all_rows bytes heads s = source_row bytes ∷ (flat_map step_rows (steps heads s) ++ (warning_rows bytes heads s ++ end_row s ∷ []))

-- ---- bytes

-- what is shown of each node's content is bytes
abbrev pub ShowBytes : List PlainNode → Type 0
ShowBytes nodes = AllByRecursion (λ (n : PlainNode). list_all is_byte (content_end n.content) ≡ true) nodes

-- of a directive: while it runs, and after it
abbrev pub DoneShowsBytes : Cluster → PlainDirective → Type 0
DoneShowsBytes c d = (shows_bytes (execution c d).observed ≡ true) × ShowBytes (outcome c d).cluster.nodes

-- of the directive of a block, and what was probably meant by it
abbrev pub BlockShowsBytes : Cluster → PlainBlock → Type 0
BlockShowsBytes c b = DoneShowsBytes c (directive_of b) × IsOfBytes (meant_by b (outcome c (directive_of b)).output)

-- and so it is of each of these blocks
abbrev pub GoOnShowingBytes : Cluster → List PlainBlock → Type 0
GoOnShowingBytes c [] = Unit {0}
GoOnShowingBytes c (b ∷ bs) = BlockShowsBytes c b × GoOnShowingBytes (outcome c (directive_of b)).cluster bs
