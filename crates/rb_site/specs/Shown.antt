-- What a site shows of a script. (This project's.)
use Rattle.std.specs.Prelude.{◌≡◌, ℕ, Bool, true, false, if◌then◌else◌, List, [], ◌∷◌, ◌++◌, None}
use Rattle.std.specs.List.{list_any}
use Rattle.rb_report.specs.declared.check.status.Status.{Status}
use Rattle.rb_report.specs.declared.check.status.Status.TheVariants.{Matched, Mismatched}
use Rattle.rb_script.specs.HeadLines.{AreHeadLines}
use Rattle.rb_script.specs.Lines.{Line, lines}
use Rattle.rb_script.specs.Reads.{Reads}
use Rattle.rb_script.specs.Script.{PlainScript}
use Rattle.rb_replay.specs.Report.{mismatches}
use Rattle.rb_view.specs.declared.chart.part.ChartPart.{ChartPart}
use Rattle.rb_view.specs.declared.chart.style.TheConstants.{STYLE}
use Rattle.rb_view.specs.Charts.{PlainChart, chart_text}
use Rattle.rb_view.specs.Drawn.{drawn_arrows, without_places}
use Rattle.rb_view.specs.Pages.{rows_joined}
use Rattle.rb_view.specs.Steps.{steps_texts}
use Rattle.rb_book.specs.Titles.{IsTitle}
use Rattle.rb_book.specs.declared.chapter.Chapter.{Chapter}

-- the bytes are a script, and these are the rows of its page
pub record AreRowsOf (bytes : List ℕ) (rows : List Line) : Type 0 where
  pub script : PlainScript
  pub heads : List ℕ
  pub reads : Reads bytes script
  pub heads_are : AreHeadLines 1 (lines bytes) script.blocks heads
  pub rows_are : rows ≡ steps_texts bytes heads script

abbrev pub has_some : {X : Type 0} → List X → Bool
has_some [] = false
has_some (x ∷ xs) = true

-- the bytes are a script, and whether an output of it is not the expected one
abbrev pub Differs : List ℕ → Bool → Type 0
Differs bytes differs = (script : PlainScript) × Reads bytes script × (differs ≡ has_some (mismatches script))

-- a page of the script that the bytes are: its rows, under a name, between a front and a back
abbrev pub IsPage : List ℕ → List ℕ → List ℕ → List ℕ → List ℕ → Type 0
IsPage bytes name front back text = (rows : List Line) × AreRowsOf bytes rows × (text ≡ front ++ (rows_joined name rows ++ back))

-- all of a script
abbrev pub whole : ChartPart
whole = record { from = None; until = None }

-- a picture of the script that the bytes are: its arrows are the script's
pub record IsChart (bytes : List ℕ) (chart : PlainChart) : Type 0 where
  pub script : PlainScript
  pub heads : List ℕ
  pub reads : Reads bytes script
  pub heads_are : AreHeadLines 1 (lines bytes) script.blocks heads
  pub arrows_are : without_places chart.arrows ≡ drawn_arrows whole heads script

abbrev pub IsPicture : List ℕ → List ℕ → Type 0
IsPicture bytes text = (chart : PlainChart) × IsChart bytes chart × (text ≡ chart_text STYLE.now chart)

-- a chapter's title is its script's, and it differs if its script does
abbrev pub IsRunOf : Chapter → Type 0
IsRunOf chapter = IsTitle chapter.script.items chapter.title.items × Differs chapter.script.items chapter.differs

abbrev pub differs : Chapter → Bool
differs chapter = chapter.differs

abbrev pub has_differing : List Chapter → Bool
has_differing chapters = list_any differs chapters

-- a site of chapters ends as a check does: with whether one differs
abbrev pub status_of : List Chapter → Status
status_of chapters = if has_differing chapters then Mismatched else Matched
