-- How long the text of a script's steps is at the most: what stands around them, and what each step says. (This project's.)
use Rattle.std.specs.Prelude.{ℕ, ◌+◌, ◌*◌, List, [], ◌∷◌, length, decimal}
use Rattle.std.specs.List.{sum_by}
use Rattle.rb_script.specs.Script.{PlainScript}
use Rattle.rb_replay.specs.Report.{mismatches}
use Rattle.rb_node.specs.Node.{PlainNode}
use Rattle.rb_machine.specs.Observations.{Observation, Shown, Settled}
use Rattle.rb_texts.specs.Items.{PlainItem}
use Rattle.rb_view.specs.Sizes.{row_size}
use Rattle.rb_view.specs.Watching.{rewritten, rows_since, shown_rows}
use Rattle.rb_view.specs.Steps.{Step, hints, script_rows}

-- what stands around the steps: the script's name, its bytes, and how many directives and mismatches there are
abbrev pub around_size : List ℕ → List ℕ → PlainScript → ℕ
around_size name bytes s = 125 + 6 * length name + 6 * length bytes + length (decimal (length s.blocks)) + length (decimal (length (mismatches s)))

-- what happened, and why, as its rows say it
abbrev pub item_size : PlainItem → ℕ
item_size item = sum_by row_size (shown_rows item)

-- what is observed: what happened, and what changed at nodes
abbrev pub observed_size : List PlainNode → List Observation → ℕ
observed_size nodes [] = 0
observed_size nodes (Shown items ∷ observed) = sum_by item_size items + observed_size nodes observed
observed_size nodes (Settled id n ∷ observed) = sum_by row_size (rows_since nodes id n) + observed_size (rewritten nodes id n) observed

-- where a step stands and what it printed, what it did, what changed, and what was probably meant
abbrev pub step_size : Step → ℕ
step_size s =
    sum_by row_size (script_rows s.left s.line s.block.expected s.output) + observed_size s.before s.observed + sum_by row_size s.changes + sum_by row_size (hints s)
