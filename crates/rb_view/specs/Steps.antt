-- What the run of a script is, as steps: what a page shows. (docs/FORMATS.md.)
use Rattle.std.specs.Prelude.{ℕ, ◌==◌, if◌then◌else◌, codes, List, [], ◌∷◌, ◌++◌, length, map}
use Rattle.std.specs.List.{flat_map}
use Rattle.rb_script.specs.Lines.{Line, lines}
use Rattle.rb_script.specs.Script.{PlainBlock, PlainScript}
use Rattle.rb_script.specs.Reading.{directive_of}
use Rattle.rb_report.specs.declared.check.table.TheConstants.{MAX_SCRIPT_CELLS}
use Rattle.rb_report.specs.Diffs.{Stretch, parts_within, left_after}
use Rattle.rb_report.specs.Notices.{warning_sentence}
use Rattle.rb_machine.specs.Cluster.{Cluster, empty}
use Rattle.rb_machine.specs.Outcome.{execution, outcome}
use Rattle.rb_replay.specs.Report.{same_lines, mismatches}
use Rattle.rb_replay.specs.Run.{outputs}
use Rattle.rb_script_report.specs.Checked.{meant_by}
use Rattle.rb_script_report.specs.Doubts.{all_warnings}
use Rattle.rb_script_report.specs.declared.warning.Warning.{Warning}
use Rattle.rb_node.specs.Node.{PlainNode}
use Rattle.rb_script.specs.Directive.{PlainDirective}
use Rattle.rb_machine.specs.Observations.{Observation}
use Rattle.rb_view.specs.Kept.{texts_of, line_rows}
use Rattle.rb_view.specs.Meant.{hint_rows}
use Rattle.rb_view.specs.Rows.{Row, row, number, text}
use Rattle.rb_view.specs.States.{state_rows}
use Rattle.rb_view.specs.Watching.{observed_texts, written_last}

-- one directive of a run
pub record Step : Type 0 where
  -- the line of its head
  pub line : ℕ
  -- how many cells are left to compare what is expected with what was printed
  pub left : ℕ
  -- what is in the script, and what was printed
  pub block : PlainBlock
  pub output : List Line
  -- the nodes before it, and what is observed of it, whatever the level is
  pub before : List PlainNode
  pub observed : List Observation
  -- what is after it that wasn't written
  pub changes : List Row

-- what is after a directive that wasn't written while it ran
abbrev pub changes_left : Cluster → PlainDirective → List Row
changes_left c d = state_rows (written_last c.nodes (execution c d).observed) (outcome c d).cluster.nodes

-- what a directive does, and what changes
abbrev pub done_texts : Cluster → PlainDirective → List Line
done_texts c d = observed_texts c.nodes (execution c d).observed ++ texts_of (changes_left c d)

-- the directive of a block, whose head is at a line, in a cluster
abbrev pub step : ℕ → ℕ → Cluster → PlainBlock → Step
step left line c b = record {
  line = line;
  left = left;
  block = b;
  output = (outcome c (directive_of b)).output;
  before = c.nodes;
  observed = (execution c (directive_of b)).observed;
  changes = changes_left c (directive_of b);
}

-- how many cells are left after it: what matches takes none
abbrev pub left_next : ℕ → List Line → List Line → ℕ
left_next left expected output = if same_lines expected output then left else left_after left expected output

-- those of blocks, one after another, whose heads are at these lines
abbrev pub steps_from : ℕ → List ℕ → Cluster → List PlainBlock → List Step
steps_from left [] c bs = []
steps_from left (line ∷ heads) c [] = []
steps_from left (line ∷ heads) c (b ∷ bs) =
    step left line c b ∷ steps_from (left_next left b.expected (outcome c (directive_of b)).output) heads (outcome c (directive_of b)).cluster bs

-- those of a script, from the empty cluster on
abbrev pub steps : List ℕ → PlainScript → List Step
steps heads s = steps_from MAX_SCRIPT_CELLS heads empty s.blocks

-- ---- as rows

-- how many lines there are, where there are some
abbrev pub count_rows : List ℕ → ℕ → List Row
count_rows name n = if n == 0 then [] else row name (number n ∷ []) ∷ []

-- lines that are the same, and then what is expected in place of what was printed
abbrev pub stretch_rows : Stretch → List Row
stretch_rows s = count_rows (codes "same") (length s.same) ++ (line_rows (codes "expected") s.expected ++ count_rows (codes "actual") (length s.output))

-- where the output isn't what is expected: that it isn't, and where it differs, which is what `check` shows
abbrev pub mismatch_rows : ℕ → List Line → List Line → List Row
mismatch_rows left expected output =
    if same_lines expected output then [] else row (codes "mismatch") [] ∷ flat_map stretch_rows (parts_within left expected output)

-- where a directive's head is, and what it printed
abbrev pub script_rows : ℕ → ℕ → List Line → List Line → List Row
script_rows left line expected output = row (codes "step") (number line ∷ []) ∷ (line_rows (codes "output") output ++ mismatch_rows left expected output)

-- what was probably meant
abbrev pub hints : Step → List Row
hints s = hint_rows (meant_by s.block s.output)

abbrev pub step_texts : Step → List Line
step_texts s =
    texts_of (script_rows s.left s.line s.block.expected s.output) ++ (observed_texts s.before s.observed ++ (texts_of s.changes ++ texts_of (hints s)))

-- how many directives and mismatches there are
abbrev pub end_row : PlainScript → Row
end_row s = row (codes "end") (number (length s.blocks) ∷ number (length (mismatches s)) ∷ [])

-- a line that is probably a mistake, and why
abbrev pub warning_row : Warning → Row
warning_row w = row (codes "warning") (number w.line ∷ text (warning_sentence w.doubt) ∷ [])

-- those of `check` in a script of these bytes
abbrev pub warning_rows : List ℕ → List ℕ → PlainScript → List Row
warning_rows bytes heads s = map warning_row (all_warnings (lines bytes) heads s.blocks (outputs s))

-- the bytes of a script, as they are
abbrev pub source_row : List ℕ → Row
source_row bytes = row (codes "text") (text bytes ∷ [])

-- the rows after the first, as texts: the bytes of a script, its steps, what is probably a mistake, and how many there are
abbrev pub steps_texts : List ℕ → List ℕ → PlainScript → List Line
steps_texts bytes heads s = texts_of (source_row bytes ∷ []) ++ (flat_map step_texts (steps heads s) ++ (texts_of (warning_rows bytes heads s) ++ texts_of (end_row s ∷ [])))
