-- What a check reports: its scripts, one after another, and its beginning and its end. (This project's.)
use Rattle.std.specs.Prelude.{◌≡◌, ◌≢◌, ℕ, ◌≤◌, ◌-◌, ⊤, Bool, false, List, [], ◌∷◌, ◌++◌, String, Option, Some, IfOk, length, map, string_bytes, take}
use Rattle.std.specs.declared.alloc.Global.{Global}
use Rattle.std.specs.declared.cmp.Ordering.{Ordering}
use Rattle.rb_files.specs.Finds.{IsFound}
use Rattle.rb_files.specs.Names.{AreInOrder}
use Rattle.rb_files.specs.PathErrors.{IsOfOpening, without_cause}
use Rattle.rb_files.specs.Walks.{IsWalk}
use Rattle.rb_files.specs.declared.entry.FileId.{FileId}
use Rattle.rb_files.specs.declared.entry.FolderId.{FolderId}
use Rattle.rb_files.specs.declared.finding.Found.{Found}
use Rattle.rb_files.specs.declared.path_error.PathError.{PathError}
use Rattle.rb_script.specs.declared.fault.ScriptFault.{ScriptFault}
use Rattle.rb_script.specs.Script.{PlainScript}
use Rattle.rb_script.specs.Reading.{read_of, Refuses}
use Rattle.rb_report.specs.declared.check.failure.Failure.TheVariants.{NotRead, OutOfMemory}
use Rattle.rb_report.specs.declared.check.status.Status.{Status}
use Rattle.rb_report.specs.declared.check.totals.Totals.{Totals}
use Rattle.rb_report.specs.Counts.{nothing, status_of, together}
use Rattle.rb_script_report.specs.declared.layout.Layout.{Layout}
use Rattle.rb_script_report.specs.Layouts.{IsLayout}
use Rattle.rb_check.specs.declared.answer.HeardAnswer.{HeardAnswer}
use Rattle.rb_check.specs.declared.check_request.CheckRequest.{CheckRequest}
use Rattle.rb_check.specs.declared.differing.Differing.{Differing}
use Rattle.rb_check.specs.declared.remark.Remark.TheVariants as remarks
use Rattle.rb_check.specs.declared.report_state.ReportForm.{ReportForm}
use Rattle.rb_check.specs.declared.report_state.ReportState.{ReportState}
use Rattle.rb_check.specs.declared.review.Review.{Review}
use Rattle.rb_check.specs.declared.review.Review.TheVariants as reviews
use Rattle.rb_check.specs.declared.running_check.RunningCheck.{RunningCheck}
use Rattle.rb_check.specs.declared.script_result.PathResult.{PathResult}
use Rattle.rb_check.specs.declared.script_result.PathResult.TheVariants as paths
use Rattle.rb_check.specs.declared.script_result.ScriptResult.{ScriptResult}
use Rattle.rb_check.specs.Endings.{IsAnswered}
use Rattle.rb_check.specs.Lost.{lost_results, lost_text}
use Rattle.rb_bench.specs.Reasons.{asked_reasons}
use Rattle.rb_check.specs.Results.{CheckedPath, checked_path, counts_of, listed_in}
use Rattle.rb_check.specs.Reviews.{review_end}
use Rattle.rb_check.specs.Shown.{Lists, Prints, begun_text, colors_in, lacks_memory, last_text, own_after, remark_text, shown_in, started}
use Rattle.rb_check.specs.Subjects.{PlainChecked}
use Rattle.rb_check.specs.Targets.{AreNamedLines, AreNotFound, no_directive_failure}
use Rattle.rb_check.specs.Visible.{showing_of_lines}

-- ---- a script

-- the script of these bytes, with its reasons if they are asked for, in the colours that are asked for unless something in it acts in a terminal
pub record IsRun (asked : CheckRequest) (form : ReportForm) (path bytes : List ℕ) (c : PlainChecked) : Type 0 where
  pub path_is : c.path ≡ path
  pub layout_is : IsLayout bytes c.script c.layout
  pub whys_are : c.whys ≡ asked_reasons asked.explains c.script
  pub colors_are : c.colors ≡ colors_in (shown_in form.format path (showing_of_lines c.layout.text)) asked.colors

-- the bytes that are read are a script, and its run is shown, with what happened to its outputs; or they are no script, and the reason is
pub data Reported (reads : List ℕ → List ℕ → Type 0) (tells : List ℕ → List ℕ → Bool → Type 0) (asked : CheckRequest) (is_known : Type 0) (coming : List HeardAnswer) (form : ReportForm) (path : List ℕ) (before after : Review) (found : PathResult) (text : List ℕ) : Type 0 where
  ran : (bytes : List ℕ) → (c : PlainChecked) → (r : ScriptResult) → reads path bytes → IsRun asked form path bytes c → IsAnswered tells asked is_known coming form c before after r text
      → found ≡ paths.Ran r → Reported reads tells asked is_known coming form path before after found text
  refused : (bytes : List ℕ) → (fault : ScriptFault) → reads path bytes → Refuses fault (read_of bytes) → after ≡ before
      → found ≡ paths.Refused fault → text ≡ remark_text form path (remarks.Refused fault) → Reported reads tells asked is_known coming form path before after found text

-- why a script's file can't be read: it can't be opened, reading it fails, or memory is refused
pub data IsUnread (error : PathError) : Type 0 where
  unopened : IsOfOpening error → IsUnread error
  unfinished : error ≡ without_cause NotRead → IsUnread error
  unstored : error.failure ≡ OutOfMemory → IsUnread error

-- why checking a script fails: its file can't be read, memory is refused, or a line is named with no directive at it or above it
pub data Fails (reads : List ℕ → List ℕ → Type 0) (tells : List ℕ → List ℕ → Bool → Type 0) (asked : CheckRequest) (path : List ℕ) (error : PathError) : Type 0 where
  unread : IsUnread error → Fails reads tells asked path error
  memory : error.failure ≡ OutOfMemory → Fails reads tells asked path error
  missed : (bytes : List ℕ) → (s : PlainScript) → (l : Layout) → reads path bytes → IsLayout bytes s l
      → AreNotFound (λ lines. AreNamedLines tells path asked.targets.now (Some lines)) l.heads.items (no_directive_failure asked.accepts) error → Fails reads tells asked path error

-- a script is reported; or checking it fails, perhaps after some text, and the failure is shown
pub data IsChecked (reads : List ℕ → List ℕ → Type 0) (tells : List ℕ → List ℕ → Bool → Type 0) (asked : CheckRequest) (is_known : Type 0) (coming : List HeardAnswer) (form : ReportForm) (path : List ℕ) (before after : Review) (found : PathResult) (text : List ℕ) : Type 0 where
  reported : Reported reads tells asked is_known coming form path before after found text → IsChecked reads tells asked is_known coming form path before after found text
  failed : (error : PathError) → (part : List ℕ) → Fails reads tells asked path error → found ≡ paths.Failed error.failure
      → text ≡ part ++ remark_text form path (remarks.Failed error.failure) → IsChecked reads tells asked is_known coming form path before after found text

-- ---- scripts, one after another

-- the next script, unless the review is over. What files hold, where paths lead, and which lines a review reads is not known.
pub record IsNext (asked : CheckRequest) (form : ReportForm) (path : List ℕ) (before after : Review) (found : PathResult) (text : List ℕ) : Type 0 where
  pub ongoing : before ≢ reviews.Over
  pub unasked : asked.reviews ≡ false → after ≡ before
  pub checked : IsChecked (λ path bytes. ⊤) (λ path other is. ⊤) asked ⊥ [] form path before after found text

-- these scripts, in order, each once, with their results
unfoldable pub AreInTurn : CheckRequest → ReportForm → List (String Global) → Review → Review → List CheckedPath → List ℕ → Type 0
AreInTurn asked form [] before after results text = (after ≡ before) × (results ≡ []) × (text ≡ [])
AreInTurn asked form (script ∷ scripts) before after results text =
    (between : Review) × (found : PathResult) × (more : List CheckedPath) × (first : List ℕ) × (others : List ℕ)
    × IsNext asked form (string_bytes script) before between found first × AreInTurn asked form scripts between after more others
    × (results ≡ checked_path (string_bytes script) found ∷ more) × (text ≡ first ++ others)

-- all scripts; or those up to the end of a review, and that it has ended, with these counts
pub record AreChecked (asked : CheckRequest) (form : ReportForm) (scripts : List (String Global)) (counts : Totals) (results : List CheckedPath) (text : List ℕ) : Type 0 where
  pub done : ℕ
  pub review : Review
  pub shown : List ℕ
  pub within : done ≤ length scripts
  pub in_turn : AreInTurn asked form (take done scripts) reviews.Each review results shown
  pub all : review ≢ reviews.Over → done ≡ length scripts
  pub text_is : text ≡ shown ++ review_end review counts.accepted (length scripts - done)

-- paths have these results, which are counted and listed, and a text goes out; this is said of both
pub record Reports {W E : Type 0} (held : W → Option (List ℕ)) (old new : RunningCheck W E) (says : List CheckedPath → List ℕ → Type 0) : Type 0 where
  pub results : List CheckedPath
  pub text : List ℕ
  pub said : says results text
  pub counted : new.results.counts ≡ counts_of old.results.counts results
  pub lists : Lists new.report.state old.results.differing.items new.results.differing.items (listed_in results)
  pub out : Prints held old.report new.report text

-- ---- the whole report

-- what a walk from the targets finds, unless memory runs out; the filters keep each path. What the file system says is not known.
pub record IsFoundOf (asked : CheckRequest) (found : Found) : Type 0 where
  pub file_cmp : FileId → FileId → Ordering
  pub folder_cmp : FolderId → FolderId → Ordering
  pub kept : IsFound asked.filters.now found
  pub walked : found.is_cut ≡ false
      → IsWalk (λ path said. ⊤) (λ folder said. ⊤) (λ folder said. IfOk said (λ listing. AreInOrder listing.names.items)) file_cmp folder_cmp asked.filters.now (map (λ target. string_bytes target.path) asked.targets.now) found

-- the report on what is found: its beginning, the paths that could not be read, the scripts, and its end
pub record IsReport (asked : CheckRequest) (end : ReportState) (counts : Totals) (text : List ℕ) : Type 0 where
  pub found : Found
  pub found_is : IsFoundOf asked found
  pub results : List CheckedPath
  pub shown : List ℕ
  pub checked : AreChecked asked (started asked).form found.scripts.items counts results shown
  pub counts_are : counts ≡ counts_of nothing (lost_results found ++ results)
  pub differing : List Differing
  pub differing_are : Lists end [] differing (listed_in results)
  pub milliseconds : ℕ
  pub text_is : text ≡ begun_text (started asked).form ++ (lost_text (started asked).form found
      ++ (shown ++ last_text asked (length found.scripts.items) (started asked).form differing (together counts nothing) milliseconds))

-- the status is that of all counts of a report: paths that could not be read, scripts, and the report's own failures, which are of memory and of standard output
pub record IsCheckStatus (asked : CheckRequest) (status : Status) : Type 0 where
  pub end : ReportState
  pub counts : Totals
  pub text : List ℕ
  pub report : IsReport asked end counts text
  pub own_are : lacks_memory end ≡ false → end.own ≡ own_after (started asked).is_closed end.is_closed nothing
  pub is : status ≡ status_of asked.is_strict (together counts end.own)
