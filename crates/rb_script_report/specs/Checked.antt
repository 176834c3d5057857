-- What `check` shows of a script that ran: its directives in order, each with the line of its head. (This project's.)
use Rattle.std.specs.Prelude.{◌≡◌, ℕ, ◌-◌, Bool, true, false, ◌&&◌, not, if◌then◌else◌, List, [], ◌∷◌, ◌++◌, Option, Some, None, length, slice_index, slice_index_or}
use Rattle.rb_script.specs.Lines.{Line}
use Rattle.rb_script.specs.Script.{PlainBlock, PlainScript}
use Rattle.rb_script.specs.Reading.{directive_of}
use Rattle.rb_script.specs.Edits.{block_at_place}
use Rattle.rb_replay.specs.Run.{outputs}
use Rattle.rb_replay.specs.Report.{same_lines, mismatches}
use Rattle.rb_report.specs.declared.check.colors.Colors.{Colors}
use Rattle.rb_report.specs.declared.check.table.TheConstants.{MAX_SCRIPT_CELLS}
use Rattle.rb_report.specs.Diffs.{left_after}
use Rattle.rb_report.specs.Heads.{head_text}
use Rattle.rb_report.specs.Headings.{note_text}
use Rattle.rb_report.specs.Whys.{mismatch_text, run_text}
use Rattle.rb_report.specs.Briefs.{brief_text}
use Rattle.rb_report.specs.Hints.{PlainHint, hint_text, unknown}
use Rattle.rb_report.specs.Suggestions.{suggested}
use Rattle.rb_script_report.specs.declared.view.Detail.{Detail}
use Rattle.rb_script_report.specs.declared.view.Detail.TheVariants as shown
use Rattle.rb_script_report.specs.Errors.{first_line, is_error, is_unexpected}

-- the head of a block's directive, on one line
abbrev pub head_of : PlainBlock → List ℕ
head_of b = head_text (directive_of b)

-- what was probably meant, if the output differs or is an error
abbrev pub meant_by : PlainBlock → List Line → PlainHint
meant_by b output = if same_lines b.expected output && not (is_error output) then unknown else suggested (directive_of b)

-- on a line of its own
abbrev pub hint_of : PlainBlock → List Line → List ℕ
hint_of b output = hint_text (meant_by b output)

-- a block whose output differs, step by step or not, with n cells left to compare its lines
abbrev pub mismatch_shown : ℕ → Bool → Colors → List ℕ → ℕ → PlainBlock → List Line → List ℕ
mismatch_shown left grouped colors path line b output = mismatch_text left grouped colors path line (head_of b) b.expected output (hint_of b output)

-- a block that expects its output: an error that isn't said to be expected is named, and where all are shown the output is shown step by step
abbrev pub match_shown : Bool → List Line → List ℕ → ℕ → PlainBlock → List Line → List ℕ
match_shown all ls path line b output =
    if all then run_text path line (head_of b) output (hint_of b output)
    else (if is_unexpected ls line output then note_text path line (head_of b) (first_line output) (hint_of b output) else [])

-- one directive, whose head begins on the line, of the lines of a script: where all are shown they are shown step by step
abbrev pub directive_shown : ℕ → Bool → Colors → List Line → List ℕ → ℕ → PlainBlock → List Line → List ℕ
directive_shown left all colors ls path line b output =
    if same_lines b.expected output then match_shown all ls path line b output else mismatch_shown left all colors path line b output

-- how many cells are left then: what matches takes none
abbrev pub left_next : ℕ → PlainBlock → List Line → ℕ
left_next left b output = if same_lines b.expected output then left else left_after left b.expected output

-- what directives give one after another, each by the line of its head, itself and its output
abbrev pub of_each : {A : Type 0} → (ℕ → PlainBlock → List Line → List A) → List ℕ → List PlainBlock → List (List Line) → List A
of_each one [] bs os = []
of_each one (line ∷ heads) [] os = []
of_each one (line ∷ heads) (b ∷ bs) [] = []
of_each one (line ∷ heads) (b ∷ bs) (output ∷ os) = one line b output ++ of_each one heads bs os

-- directives in order, with the lines of their heads and their outputs: each has the cells that those before it left
abbrev pub all_shown : ℕ → Bool → Colors → List Line → List ℕ → List ℕ → List PlainBlock → List (List Line) → List ℕ
all_shown left all colors ls path [] bs os = []
all_shown left all colors ls path (line ∷ heads) [] os = []
all_shown left all colors ls path (line ∷ heads) (b ∷ bs) [] = []
all_shown left all colors ls path (line ∷ heads) (b ∷ bs) (output ∷ os) =
    directive_shown left all colors ls path line b output ++ all_shown (left_next left b output) all colors ls path heads bs os

-- the line of the head at a place, which counts from 1
abbrev pub head_line : List ℕ → ℕ → ℕ
head_line heads k = slice_index heads (k - 1)

-- the mismatch at a place
abbrev pub mismatch_at : ℕ → Colors → List ℕ → List ℕ → PlainScript → ℕ → List ℕ
mismatch_at left colors path heads s k = mismatch_shown left false colors path (head_line heads k) (block_at_place s.blocks k) (slice_index_or (outputs s) (k - 1) [])

-- how many cells are left after it
abbrev pub left_behind : ℕ → PlainScript → ℕ → ℕ
left_behind left s k = left_after left (block_at_place s.blocks k).expected (slice_index_or (outputs s) (k - 1) [])

-- the mismatches at places, one after another: each has the cells that those before it left
abbrev pub mismatches_at : ℕ → Colors → List ℕ → List ℕ → PlainScript → List ℕ → List ℕ
mismatches_at left colors path heads s [] = []
mismatches_at left colors path heads s (k ∷ ks) = mismatch_at left colors path heads s k ++ mismatches_at (left_behind left s k) colors path heads s ks

-- how many there are, and where the first is
abbrev pub brief_at : List ℕ → List ℕ → PlainScript → ℕ → List ℕ
brief_at path heads s k = brief_text path (length (mismatches s)) (length s.blocks) (head_line heads k)

-- of the first place alone; nothing if there is none
abbrev pub of_first : (ℕ → List ℕ) → List ℕ → List ℕ
of_first text [] = []
of_first text (k ∷ ks) = text k

-- a script of these lines, whose heads begin on those
abbrev pub checked_text : Detail → Colors → List Line → List ℕ → List ℕ → PlainScript → List ℕ
checked_text shown.Differing colors ls path heads s = all_shown MAX_SCRIPT_CELLS false colors ls path heads s.blocks (outputs s)
checked_text shown.All colors ls path heads s = all_shown MAX_SCRIPT_CELLS true colors ls path heads s.blocks (outputs s)
checked_text shown.First colors ls path heads s = of_first (mismatch_at MAX_SCRIPT_CELLS colors path heads s) (mismatches s)
checked_text shown.Brief colors ls path heads s = of_first (brief_at path heads s) (mismatches s)

-- the line of the first mismatch
abbrev pub first_head : List ℕ → List ℕ → Option ℕ
first_head heads [] = None
first_head heads (k ∷ ks) = Some (head_line heads k)

-- the place is the first of these
abbrev pub IsFirst : ℕ → List ℕ → Type 0
IsFirst place [] = ⊥
IsFirst place (k ∷ ks) = k ≡ place

-- no directive is shown for its error: none of those that match has one that isn't said to be expected
abbrev pub NoneIsNamed : List Line → List ℕ → List PlainBlock → List (List Line) → Type 0
NoneIsNamed ls [] bs os = Unit {0}
NoneIsNamed ls (line ∷ heads) [] os = Unit {0}
NoneIsNamed ls (line ∷ heads) (b ∷ bs) [] = Unit {0}
NoneIsNamed ls (line ∷ heads) (b ∷ bs) (output ∷ os) = ((same_lines b.expected output && is_unexpected ls line output) ≡ false) × NoneIsNamed ls heads bs os
