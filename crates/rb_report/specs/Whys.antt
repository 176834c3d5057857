-- Reasons below the lines of an output: a text with reasons is the text without, with
-- reasons between. (This project's.)
use Rattle.std.specs.Prelude.{◌≡◌, ℕ, ◌-◌, ◌==◌, nat_le, Bool, true, false, if◌then◌else◌, List, [], ◌∷◌, ◌++◌, length, take, drop, codes, Option, Some, None, slice_get}
use Rattle.std.specs.List.{flat_map}
use Rattle.rb_script.specs.Lines.{Line}
use Rattle.rb_report.specs.declared.check.colors.Colors.{Colors}
use Rattle.rb_report.specs.declared.check.colors.Colors.TheVariants.{Off}
use Rattle.rb_report.specs.declared.check.end.End.TheVariants.{Front, Back}
use Rattle.rb_report.specs.declared.check.position.DiffPosition.{DiffPosition}
use Rattle.rb_report.specs.declared.check.side.Side.{Side}
use Rattle.rb_report.specs.declared.check.side.Side.TheVariants.{Both, Expected, Output}
use Rattle.rb_report.specs.declared.check.why.Why.{Why}
use Rattle.rb_report.specs.declared.check.why.Why.TheVariants as whys
use Rattle.rb_report.specs.Diffs.{Stretch, common, middle, without_last, last}
use Rattle.rb_report.specs.Folds.{fold_text}
use Rattle.rb_report.specs.Headings.{heading_text}
use Rattle.rb_report.specs.Highlights.{is_paired}
use Rattle.rb_report.specs.Steps.{step_text, step_beside, start, is_below_delivery, after_line, after_lines}

-- the reasons of the lines of an output, in order
abbrev pub reasons_in : Why → List Line
reasons_in whys.Unasked = []
reasons_in (whys.Given lines) = lines.now

-- a reason points at the line above it
abbrev pub pointed : Line → List ℕ
pointed reason = codes "^ " ++ (reason ++ codes "\n")

-- an empty one isn't shown
abbrev pub below : Line → List ℕ
below reason = if length reason == 0 then [] else pointed reason

abbrev pub below_of : Option Line → List ℕ
below_of None = []
below_of (Some reason) = below reason

-- the text below the line at an index, counted from 0
abbrev pub reason_at : List Line → ℕ → List ℕ
reason_at why at = below_of (slice_get why at)

-- the reason below a line of a side, in its position: what is only expected has none
abbrev pub reason_on : Side → List Line → DiffPosition → List ℕ
reason_on Both why p = reason_at why p.at
reason_on Expected why p = []
reason_on Output why p = reason_at why p.at

-- ---- lines, from a position on

abbrev pub told_line : Colors → Side → List Line → DiffPosition → Line → List ℕ
told_line colors side why p line = step_text colors side (is_below_delivery side p) line ++ reason_on side why p

abbrev pub told_lines : Colors → Side → List Line → DiffPosition → List Line → List ℕ
told_lines colors side why p [] = []
told_lines colors side why p (line ∷ ls) = told_line colors side why p line ++ told_lines colors side why (after_line side p line) ls

-- common lines: of more than six the first three and the last three
abbrev pub told_same : Colors → List Line → DiffPosition → List Line → List ℕ
told_same colors why p ls =
    if nat_le (length ls) 6 then told_lines colors Both why p ls
    else (told_lines colors Both why p (take 3 ls) ++ (fold_text (length ls - 6) ++ told_lines colors Both why (after_lines Both p (take (length ls - 3) ls)) (drop (length ls - 3) ls)))

abbrev pub told_beside : Side → List Line → DiffPosition → Line → Line → List ℕ
told_beside side why p line other = step_beside side (is_below_delivery side p) line other ++ reason_on side why p

abbrev pub told_paired : Side → List Line → DiffPosition → List Line → List Line → List ℕ
told_paired side why p [] others = []
told_paired side why p (line ∷ ls) [] = []
told_paired side why p (line ∷ ls) (other ∷ others) = told_beside side why p line other ++ told_paired side why (after_line side p line) ls others

-- lines of one side that replace those of the other
abbrev pub told_changed : Colors → Side → List Line → DiffPosition → List Line → List Line → List ℕ
told_changed colors side why p ls others = if is_paired colors (length ls) (length others) then told_paired side why p ls others else told_lines colors side why p ls

-- the position after lines that replace others
abbrev pub after_both : DiffPosition → List Line → List Line → DiffPosition
after_both p expected output = after_lines Output (after_lines Expected p expected) output

abbrev pub after_stretch : DiffPosition → Stretch → DiffPosition
after_stretch p s = after_both (after_lines Both p s.same) s.expected s.output

abbrev pub told_stretch : Colors → List Line → DiffPosition → Stretch → List ℕ
told_stretch colors why p s =
    let q = after_lines Both p s.same in
    told_same colors why p s.same ++ (told_changed colors Expected why q s.expected s.output ++ told_changed colors Output why q s.output s.expected)

-- one after another
abbrev pub told_text : Colors → List Line → DiffPosition → List Stretch → List ℕ
told_text colors why p [] = []
told_text colors why p (s ∷ ss) = told_stretch colors why p s ++ told_text colors why (after_stretch p s) ss

-- three parts: a beginning of both, what differs, and an end of both
abbrev pub told_parts : ℕ → Colors → List Line → DiffPosition → List Line → List Line → List Line → List Line → List ℕ
told_parts left colors why p front expected output back =
    let q = after_lines Both p front in
    told_same colors why p front ++ (told_text colors why q (middle left expected output) ++ told_same colors why (after_both q expected output) back)

-- what differs between the first n lines and the last m of those after them
abbrev pub told_between : ℕ → ℕ → ℕ → Bool → Colors → List Line → List Line → List Line → List ℕ
told_between left n m grouped colors why es os =
    told_parts left colors why (start grouped) (take n es) (without_last m (drop n es)) (without_last m (drop n os)) (last m (drop n es))

-- the diff of the expected lines and the output, step by step or not, with n cells left
unfoldable pub laid_out_diff : ℕ → Bool → Colors → List Line → List Line → List Line → List ℕ
laid_out_diff left grouped colors why es os =
    let n = common Front es os in
    told_between left n (common Back (drop n es) (drop n os)) grouped colors why es os

-- not step by step
abbrev pub told_diff : ℕ → Colors → List Line → List Line → List Line → List ℕ
told_diff left colors why es os = laid_out_diff left false colors why es os

-- ---- a directive

-- whose output is not the expected one
abbrev pub told_mismatch : ℕ → Bool → Colors → List ℕ → ℕ → List ℕ → List Line → List Line → List Line → List ℕ → List ℕ
told_mismatch left grouped colors path line head expected output why hint =
    heading_text path line head ++ (codes "\n" ++ (laid_out_diff left grouped colors why expected output ++ (hint ++ codes "\n")))

-- with its output, step by step
abbrev pub told_run : List ℕ → ℕ → List ℕ → List Line → List Line → List ℕ → List ℕ
told_run path line head output why hint = heading_text path line head ++ (codes "\n" ++ (told_lines Off Both why (start true) output ++ hint))

-- without reasons
abbrev pub mismatch_text : ℕ → Bool → Colors → List ℕ → ℕ → List ℕ → List Line → List Line → List ℕ → List ℕ
mismatch_text left grouped colors path line head expected output hint = told_mismatch left grouped colors path line head expected output [] hint

abbrev pub run_text : List ℕ → ℕ → List ℕ → List Line → List ℕ → List ℕ
run_text path line head output hint = told_run path line head output [] hint

-- ---- what reasons add

-- a part of the text: one that is shown in any case, or a reason
pub data Part : Type 0 where
  kept : List ℕ → Part
  added : Line → Part

abbrev pub untold_part : Part → List ℕ
untold_part (kept t) = t
untold_part (added r) = []

abbrev pub told_part : Part → List ℕ
told_part (kept t) = t
told_part (added r) = below r

-- The same parts: the text with reasons has reasons between, each a line after its sign.
pub record OnlyAdds (untold told : List ℕ) : Type 0 where
  pub parts : List Part
  pub untold_is : untold ≡ flat_map untold_part parts
  pub told_is : told ≡ flat_map told_part parts
