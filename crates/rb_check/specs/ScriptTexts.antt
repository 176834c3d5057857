-- What a report shows of a script that ran. (This project's.)
use Rattle.std.specs.Prelude.{◌≡◌, ℕ, ◌≤◌, ◌==◌, ◌&&◌, ◌||◌, Bool, true, false, not, if◌then◌else◌, List, [], ◌∷◌, ◌++◌, Option, Some, None, length, map}
use Rattle.std.specs.List.{flat_map, list_any}
use Rattle.std.specs.List.Sorted.{IsNonDecreasing}
use Rattle.rb_script.specs.Script.{PlainScript}
use Rattle.rb_replay.specs.Report.{mismatches}
use Rattle.rb_report.specs.declared.check.table.TheConstants.{MAX_SCRIPT_CELLS}
use Rattle.rb_script_report.specs.declared.view.Detail.{Detail}
use Rattle.rb_script_report.specs.declared.view.Detail.TheVariants as details
use Rattle.rb_script_report.specs.Checked.{head_line}
use Rattle.rb_script_report.specs.Whys.{told_alone, told_text}
use Rattle.rb_check.specs.declared.check_request.CheckRequest.{CheckRequest}
use Rattle.rb_check.specs.declared.format.Format.{Format}
use Rattle.rb_check.specs.declared.format.Format.TheVariants.{Json, Github, Junit}
use Rattle.rb_check.specs.declared.remark.Remark.TheVariants as remarks
use Rattle.rb_check.specs.declared.report_state.ReportForm.{ReportForm}
use Rattle.rb_check.specs.declared.report_state.ReportState.{ReportState}
use Rattle.rb_check.specs.Formats.{script_text}
use Rattle.rb_check.specs.Place.{ArePartedAt}
use Rattle.rb_check.specs.Shown.{GoesOut, in_form, remark_text, warnings_text}
use Rattle.rb_check.specs.Subjects.{PlainChecked, warnings_in}
use Rattle.rb_check.specs.Targets.{AreNamedLines}

-- ---- its warnings and its report

abbrev pub shows_warnings : Detail → Bool
shows_warnings details.Differing = true
shows_warnings details.All = true
shows_warnings details.First = false
shows_warnings details.Brief = false

-- warnings are shown unless little is to be shown; but always if they count as mismatches, or if outputs may be accepted
abbrev pub warns : CheckRequest → PlainScript → Bool
warns asked s = (asked.accepts && not (length (mismatches s) == 0)) || (asked.is_strict || shows_warnings asked.shown)

abbrev pub shown_warnings : CheckRequest → ReportForm → PlainChecked → List ℕ
shown_warnings asked form c = if warns asked c.script then warnings_text form c.path (warnings_in c) else []

-- to people, or in the format for programs
abbrev pub people_report : Detail → PlainChecked → List ℕ
people_report shown c = told_text shown c.colors c.layout.text c.path c.whys c.layout.heads.items c.script

abbrev pub report_text : CheckRequest → PlainChecked → List ℕ
report_text asked c = in_form asked.format (people_report asked.shown c) (λ format. script_text format asked.is_strict c)

-- in JUnit's XML each script has its case
abbrev pub may_be_empty : Option Format → Bool
may_be_empty None = true
may_be_empty (Some Json) = true
may_be_empty (Some Github) = true
may_be_empty (Some Junit) = false

-- ---- directives that are named by lines

-- the place of the last head at the line or above it, if the heads are in order
pub record IsNamed (heads : List ℕ) (line place : ℕ) : Type 0 where
  pub from_1 : 1 ≤ place
  pub last : IsNonDecreasing heads → ArePartedAt heads line place

-- a place for each line
unfoldable pub AreNamed : List ℕ → List ℕ → List ℕ → Type 0
AreNamed heads [] [] = Unit {0}
AreNamed heads [] (place ∷ places) = ⊥
AreNamed heads (line ∷ lines) [] = ⊥
AreNamed heads (line ∷ lines) (place ∷ places) = IsNamed heads line place × AreNamed heads lines places

-- a directive alone: what differs, or its output
abbrev pub alone_text : PlainChecked → ℕ → List ℕ
alone_text c place = told_alone MAX_SCRIPT_CELLS true c.colors c.layout.text c.path c.whys c.layout.heads.items c.script place

-- a directive that was to be accepted, and whose output is the expected one
abbrev pub matched_at : ReportForm → PlainChecked → ℕ → ℕ → List ℕ
matched_at form c head place = if list_any (λ k. k == place) (mismatches c.script) then [] else remark_text form c.path (remarks.Matches head)

abbrev pub matched_text : ReportForm → PlainChecked → ℕ → List ℕ
matched_text form c place = matched_at form c (head_line c.layout.heads.items place) place

-- the directives that the lines name are shown, one after another
pub record AreShown (text : ℕ → List ℕ) (heads lines : List ℕ) (old new : ReportState) (before after : Option (List ℕ)) : Type 0 where
  pub places : List ℕ
  pub named : AreNamed heads lines places
  pub out : GoesOut old new before after (flat_map text places)

-- the heads of the directives that the lines name are picked, and those that match are said to
pub record ArePicked (text : ℕ → List ℕ) (heads lines picked : List ℕ) (old new : ReportState) (before after : Option (List ℕ)) : Type 0 where
  pub places : List ℕ
  pub named : AreNamed heads lines places
  pub picked_are : picked ≡ map (head_line heads) places
  pub out : GoesOut old new before after (flat_map text places)

-- what is shown of a script: the directives that are named, alone; or its warnings and its report, if none is named, outputs are accepted, or programs read it
pub data IsTold (tells : List ℕ → List ℕ → Bool → Type 0) (asked : CheckRequest) (form : ReportForm) (c : PlainChecked) (text : List ℕ) : Type 0 where
  alone : (lines places : List ℕ) → asked.accepts ≡ false → asked.format ≡ None → AreNamedLines tells c.path asked.targets.now (Some lines) → AreNamed c.layout.heads.items lines places
      → text ≡ flat_map (alone_text c) places → IsTold tells asked form c text
  whole : (asked.accepts ≡ false → asked.format ≡ None → AreNamedLines tells c.path asked.targets.now None)
      → text ≡ shown_warnings asked form c ++ report_text asked c → IsTold tells asked form c text

-- the heads of the directives that are named to be accepted: none if nothing is accepted, or no line is named; of those that match it is said
pub data AreNamedHeads (tells : List ℕ → List ℕ → Bool → Type 0) (asked : CheckRequest) (form : ReportForm) (c : PlainChecked) (heads : Option (List ℕ)) (text : List ℕ) : Type 0 where
  unasked : asked.accepts ≡ false → heads ≡ None → text ≡ [] → AreNamedHeads tells asked form c heads text
  by_none : asked.accepts ≡ true → AreNamedLines tells c.path asked.targets.now None → heads ≡ None → text ≡ [] → AreNamedHeads tells asked form c heads text
  by_lines : (lines places : List ℕ) → asked.accepts ≡ true → AreNamedLines tells c.path asked.targets.now (Some lines) → AreNamed c.layout.heads.items lines places
      → heads ≡ Some (map (head_line c.layout.heads.items) places) → text ≡ flat_map (matched_text form c) places → AreNamedHeads tells asked form c heads text
