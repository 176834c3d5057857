-- Why nothing came of messages, or which entries give way to theirs, below the lines of the outputs that they belong to: what `check` shows of a
-- script where reasons are asked for.
-- (This project's.)
use Rattle.std.specs.Prelude.{ℕ, ◌+◌, ◌-◌, Bool, true, false, fold, if◌then◌else◌, List, [], ◌∷◌, ◌++◌, Option, Some, None, slice_get, slice_index_or, unwrap_or}
use Rattle.std.specs.Option.{option_or}
use Rattle.rb_vocab.specs.declared.level.Level.{Level}
use Rattle.rb_script.specs.Lines.{Line}
use Rattle.rb_script.specs.Directive.{PlainDirective}
use Rattle.rb_script.specs.Script.{PlainBlock, PlainScript}
use Rattle.rb_script.specs.Edits.{block_at_place}
use Rattle.rb_texts.specs.declared.reason.Reason.{Reason}
use Rattle.rb_texts.specs.Items.{PlainItem}
use Rattle.rb_texts.specs.Reasons.{reason_of, reason_line}
use Rattle.rb_texts.specs.Texts.{is_shown}
use Rattle.rb_machine.specs.Cluster.{Cluster, empty}
use Rattle.rb_machine.specs.Outcome.{Execution, execution, shown_items, outcome}
use Rattle.rb_replay.specs.Run.{directives, outputs}
use Rattle.rb_replay.specs.Report.{same_lines, mismatches}
use Rattle.rb_report.specs.declared.check.colors.Colors.{Colors}
use Rattle.rb_report.specs.declared.check.table.TheConstants.{MAX_SCRIPT_CELLS}
use Rattle.rb_report.specs.Whys.{told_mismatch, told_run}
use Rattle.rb_script_report.specs.declared.reasons.LineReasons.{LineReasons}
use Rattle.rb_script_report.specs.declared.view.Detail.{Detail}
use Rattle.rb_script_report.specs.declared.view.Detail.TheVariants as shown
use Rattle.rb_script_report.specs.Checked.{head_of, hint_of, match_shown, left_next, head_line, brief_at, of_first}

-- ---- what a script's reasons are

-- the reason below a line; an empty one is none
abbrev pub last_reason : Level → Option Reason → List Line
last_reason level None = [] ∷ []
last_reason level (Some reason) = reason_line level reason

abbrev pub at_level : LineReasons → Level → LineReasons
at_level r level = record r { level = level }

-- the reasons below all lines, in order
abbrev pub all_reasons : LineReasons → List Line
all_reasons r = if r.has_begun then r.above ++ last_reason r.level r.last else r.above

-- a line is printed
abbrev pub below_line : LineReasons → LineReasons
below_line r = record r { above = all_reasons r; has_begun = true; last = None }

-- a reason is told: it is below the last line, unless another does
abbrev pub below_reason : LineReasons → Reason → LineReasons
below_reason r reason = record r { has_begun = true; last = option_or r.last (Some reason) }

abbrev pub told : LineReasons → Option Reason → LineReasons
told r None = r
told r (Some reason) = below_reason r reason

abbrev pub with_item : LineReasons → PlainItem → LineReasons
with_item r item = told (if is_shown r.level item then below_line r else r) (reason_of item)

-- nothing has happened yet
abbrev pub no_reasons : Level → LineReasons
no_reasons level = record { level = level; above = []; has_begun = false; last = None }

-- The reasons below the lines of what happens. One before all lines is that of the first, which is `ok` then.
abbrev pub reasons_at : Level → List PlainItem → List Line
reasons_at level items = all_reasons (fold with_item (no_reasons level) items)

abbrev pub reasons_of : Execution → List Line
reasons_of e = reasons_at e.level (shown_items e)

-- those of directives, one after another
abbrev pub whys_from : Cluster → List PlainDirective → List (List Line)
whys_from c [] = []
whys_from c (d ∷ ds) = reasons_of (execution c d) ∷ whys_from (outcome c d).cluster ds

-- the reasons of each directive's output
abbrev pub whys_of : PlainScript → List (List Line)
whys_of s = whys_from empty (directives s)

-- ---- what is shown

-- the reasons of the directive at an index, which counts from 0
abbrev pub why_at : List (List Line) → ℕ → List Line
why_at whys i = unwrap_or (slice_get whys i) []

-- a block whose output differs, step by step or not, with n cells left to compare its lines
abbrev pub told_differing : ℕ → Bool → Colors → List ℕ → ℕ → PlainBlock → List Line → List Line → List ℕ
told_differing left grouped colors path line b output why = told_mismatch left grouped colors path line (head_of b) b.expected output why (hint_of b output)

-- a block that expects its output
abbrev pub told_match : Bool → List Line → List ℕ → ℕ → PlainBlock → List Line → List Line → List ℕ
told_match all ls path line b output why =
    if all then told_run path line (head_of b) output why (hint_of b output) else match_shown all ls path line b output

abbrev pub told_directive : ℕ → Bool → Colors → List Line → List ℕ → ℕ → PlainBlock → List Line → List Line → List ℕ
told_directive left all colors ls path line b output why =
    if same_lines b.expected output then told_match all ls path line b output why else told_differing left all colors path line b output why

-- directives in order, from an index on: each has the cells that those before it left
abbrev pub all_told : ℕ → Bool → Colors → List Line → List ℕ → List (List Line) → ℕ → List ℕ → List PlainBlock → List (List Line) → List ℕ
all_told left all colors ls path whys i [] bs os = []
all_told left all colors ls path whys i (line ∷ heads) [] os = []
all_told left all colors ls path whys i (line ∷ heads) (b ∷ bs) [] = []
all_told left all colors ls path whys i (line ∷ heads) (b ∷ bs) (output ∷ os) =
    told_directive left all colors ls path line b output (why_at whys i) ++ all_told (left_next left b output) all colors ls path whys (i + 1) heads bs os

-- the mismatch at a place
abbrev pub told_at : ℕ → Bool → Colors → List ℕ → List (List Line) → List ℕ → PlainScript → ℕ → List ℕ
told_at left grouped colors path whys heads s k =
    told_differing left grouped colors path (head_line heads k) (block_at_place s.blocks k) (slice_index_or (outputs s) (k - 1) []) (why_at whys (k - 1))

-- the directive at a place, with n cells left to compare its lines
abbrev pub told_alone : ℕ → Bool → Colors → List Line → List ℕ → List (List Line) → List ℕ → PlainScript → ℕ → List ℕ
told_alone left all colors ls path whys heads s k =
    told_directive left all colors ls path (head_line heads k) (block_at_place s.blocks k) (slice_index_or (outputs s) (k - 1) []) (why_at whys (k - 1))

-- all directives are shown, with their outputs
abbrev pub is_all : Detail → Bool
is_all shown.Differing = false
is_all shown.All = true
is_all shown.First = false
is_all shown.Brief = false

-- how many cells the directive at a place leaves
abbrev pub left_on : ℕ → PlainScript → ℕ → ℕ
left_on left s k = left_next left (block_at_place s.blocks k) (slice_index_or (outputs s) (k - 1) [])

-- a script of these lines, whose heads begin on those
abbrev pub told_text : Detail → Colors → List Line → List ℕ → List (List Line) → List ℕ → PlainScript → List ℕ
told_text shown.Differing colors ls path whys heads s = all_told MAX_SCRIPT_CELLS false colors ls path whys 0 heads s.blocks (outputs s)
told_text shown.All colors ls path whys heads s = all_told MAX_SCRIPT_CELLS true colors ls path whys 0 heads s.blocks (outputs s)
told_text shown.First colors ls path whys heads s = of_first (told_at MAX_SCRIPT_CELLS false colors path whys heads s) (mismatches s)
told_text shown.Brief colors ls path whys heads s = of_first (brief_at path heads s) (mismatches s)
