-- How long the text of steps is at the most.
use Rattle.std.proofs.Common.{◌≡◌, ◌∙◌, ℕ, ◌+◌, ◌*◌, ◌≤◌, Bool, true, List, [], ◌∷◌, ◌++◌, length, decimal, codes, refl, ap, arith, length-append}
use Rattle.std.specs.Fmt.{digits}
use Rattle.std.specs.List.{flat_map, sum_by}
use Rattle.std.proofs.lemmas.List.Concat.{flat_map-append}
use Rattle.std.proofs.lemmas.List.Sums.{sum_by-cons}
use Rattle.rb_script.specs.Lines.{Line}
use Rattle.rb_script.specs.Script.{PlainScript}
use Rattle.rb_node.specs.Node.{PlainNode}
use Rattle.rb_texts.specs.Items.{PlainItem}
use Rattle.rb_texts.specs.Items as items
use Rattle.rb_machine.specs.Observations.{Observation, Shown, Settled}
use Rattle.rb_view.specs.ItemRows.{item_rows}
use Rattle.rb_view.specs.Kept.{joined, texts_of}
use Rattle.rb_view.specs.Rows.{number, text, Row, row, next_text, row_text, before}
use Rattle.rb_view.specs.declared.rows.row.RowPlace.TheVariants.{First}
use Rattle.rb_view.specs.Sizes.{cell_size, row_size, is_view}
use Rattle.rb_view.proofs.SizeLaws.{rows_short}
use Rattle.rb_replay.specs.Report.{mismatches}
use Rattle.rb_view.specs.declared.steps.page.TheConstants.{FORMAT}
use Rattle.rb_view.specs.Pages.{first_row, steps_text}
use Rattle.rb_view.specs.StepSizes.{around_size, item_size, observed_size, step_size}
use Rattle.rb_view.specs.Steps.{Step, end_row, hints, script_rows, source_row, step_texts, steps, steps_texts, warning_rows}
use Rattle.rb_view.specs.Watching.{observed_texts, rewritten, rows_since, shown_rows, shown_texts}
use Rattle.rb_view.proofs.StepLaws.{rows_joined, shown_joined}

-- ---- rows and texts

-- a row that says nothing
abbrev nothing : Row
nothing = row [] []

-- rows that follow another are at most as long as what they say
next_short : (rs : List Row) → length (flat_map next_text rs) ≤ sum_by row_size rs
next_short rs =
    omega (
      arith,
      rows_short nothing rs,
      sum_by-cons row_size nothing rs,
      length-append (row_text nothing) (flat_map next_text rs ++ codes "]\n"),
      length-append (flat_map next_text rs) (codes "]\n"),
    )

kept_short : (rs : List Row) → length (joined (texts_of rs)) ≤ sum_by row_size rs
kept_short rs = omega (arith, ap (λ (l : List ℕ). length l) (rows_joined rs), next_short rs)

one_short : (r : Row) → length (joined (texts_of (r ∷ []))) ≤ row_size r
one_short r = omega (arith, kept_short (r ∷ []), sum_by-cons row_size r [])

both_long : (a b : List Line) → length (joined (a ++ b)) ≡ length (joined a) + length (joined b)
both_long a b = ap (λ (l : List ℕ). length l) (flat_map-append (λ (t : Line). t) a b) ∙ length-append (joined a) (joined b)

-- ---- what happened

item_short : (i : PlainItem) → length (joined (shown_texts i)) ≤ item_size i
item_short i = omega (arith, ap (λ (l : List ℕ). length l) (shown_joined i), next_short (shown_rows i))

items_short : (items : List PlainItem) → length (joined (flat_map shown_texts items)) ≤ sum_by item_size items
items_short [] = omega arith
items_short (i ∷ items) =
    omega (arith, both_long (shown_texts i) (flat_map shown_texts items), sum_by-cons item_size i items, item_short i, items_short items)

-- what is observed
observed_short : (nodes : List PlainNode) (observed : List Observation) → length (joined (observed_texts nodes observed)) ≤ observed_size nodes observed
observed_short nodes [] = omega arith
observed_short nodes (Shown items ∷ observed) =
    omega (arith, both_long (flat_map shown_texts items) (observed_texts nodes observed), items_short items, observed_short nodes observed)
observed_short nodes (Settled id n ∷ observed) =
    let here = rows_since nodes id n in
    let on = rewritten nodes id n in
    omega (arith, both_long (texts_of here) (observed_texts on observed), kept_short here, observed_short on observed)

-- ---- steps

step_short : (s : Step) → length (joined (step_texts s)) ≤ step_size s
step_short s =
    let script = script_rows s.left s.line s.block.expected s.output in
    omega (
      arith,
      both_long (texts_of script) (observed_texts s.before s.observed ++ (texts_of s.changes ++ texts_of (hints s))),
      both_long (observed_texts s.before s.observed) (texts_of s.changes ++ texts_of (hints s)),
      both_long (texts_of s.changes) (texts_of (hints s)),
      kept_short script,
      observed_short s.before s.observed,
      kept_short s.changes,
      kept_short (hints s),
    )

steps_short : (ss : List Step) → length (joined (flat_map step_texts ss)) ≤ sum_by step_size ss
steps_short [] = omega arith
steps_short (s ∷ ss) = omega (arith, both_long (step_texts s) (flat_map step_texts ss), sum_by-cons step_size s ss, step_short s, steps_short ss)

-- ---- what stands around them

one_digit : length (decimal FORMAT) ≡ 1
unfolding digits
one_digit = refl

first_size : (name : List ℕ) → row_size (first_row name) ≡ 65 + 6 * length name
first_size name = omega (arith, sum_by-cons cell_size (number FORMAT) (text name ∷ []), sum_by-cons cell_size (text name) [], one_digit)

source_size : (bytes : List ℕ) → row_size (source_row bytes) ≡ 33 + 6 * length bytes
source_size bytes = omega (arith, sum_by-cons cell_size (text bytes) [])

end_size : (s : PlainScript) → row_size (end_row s) ≡ 26 + length (decimal (length s.blocks)) + length (decimal (length (mismatches s)))
end_size s =
    omega (arith, sum_by-cons cell_size (number (length s.blocks)) (number (length (mismatches s)) ∷ []), sum_by-cons cell_size (number (length (mismatches s))) [])

-- the first row, with what stands before it
first_short : (name : List ℕ) → length (before First ++ row_text (first_row name)) + 2 ≤ 66 + 6 * length name
first_short name =
    omega (
      arith,
      rows_short (first_row name) [],
      sum_by-cons row_size (first_row name) [],
      length-append (row_text (first_row name)) (codes "]\n"),
      first_size name,
    )

pub text_short : (name bytes heads : List ℕ) (s : PlainScript) → length (steps_text name bytes heads s) ≤ around_size name bytes s + sum_by step_size (steps heads s) + sum_by row_size (warning_rows bytes heads s)
text_short name bytes heads s =
    let source = texts_of (source_row bytes ∷ []) in
    let last = texts_of (end_row s ∷ []) in
    let doubts = texts_of (warning_rows bytes heads s) in
    let all = flat_map step_texts (steps heads s) in
    let texts = steps_texts bytes heads s in
    omega (
      arith,
      length-append (before First ++ row_text (first_row name)) (joined texts ++ codes "]\n"),
      length-append (joined texts) (codes "]\n"),
      first_short name,
      both_long source (all ++ (doubts ++ last)),
      both_long all (doubts ++ last),
      both_long doubts last,
      kept_short (warning_rows bytes heads s),
      one_short (source_row bytes),
      source_size bytes,
      one_short (end_row s),
      end_size s,
      steps_short (steps heads s),
    )

-- what shows how a node stands has no row
pub view_said : (i : PlainItem) → is_view i ≡ true → item_size i ≡ 0
unfolding item_rows
view_said items.nothing_else is = refl
view_said (items.raft_state node) is = refl
view_said (items.raft_log log) is = refl
view_said (items.entry index e unsaved) is = refl
view_said (items.config c) is = refl
view_said (items.progress id view) is = refl
view_said item is = absurd cc
