use Rattle.std.proofs.Common.{◌≡◌, ◌∙◌, Bool, List, ◌++◌, Global, String, ap, length}
use Rattle.std.specs.Prelude.{◌==◌, map}
use Rattle.rb_files.specs.declared.finding.FailedPath.{FailedPath}
use Rattle.rb_report.specs.declared.check.failure.Failure.TheVariants.{NoScripts, OutOfMemory}
use Rattle.rb_report.specs.declared.check.totals.Totals.{Totals}
use Rattle.rb_check.specs.declared.report_state.ReportForm.{ReportForm}
use Rattle.rb_check.specs.Lost.{lost_path, paths_text, whole_failure, whole_text}
use Rattle.rb_check.specs.Results.{counts_of}
use Rattle.rb_check.proofs.ReportLaws.{counts_then}
use Rattle.rb_check.proofs.ShownLaws.{along, goes_on}
use Rattle.rb_check.proofs.paths.tell_lost.Goals as goal

pub returns-clause-counts : goal.returns-clause-counts
returns-clause-counts g c =
    let found = c.args.found.now in
    let old = c.args.check.now.results.counts in
    let lost = map lost_path found.lost.items in
    let cut = whole_failure found.is_cut OutOfMemory in
    let none = whole_failure (length found.scripts.items == 0) NoScripts in
    let empty : c.is_empty.result ≡ (length found.scripts.items == 0) = c.is_empty.ensures ∙ ap (λ (l : List (String Global)). length l == 0) c.as_slice-2.ensures.value in
    c.tell_if-2.ensures.counts ∙ ap (λ (b : Bool). counts_of c.tell_if.new.check.results.counts (whole_failure b NoScripts)) empty
    ∙ ap (λ (t : Totals). counts_of t none) (c.tell_if.ensures.counts ∙ ap (λ (t : Totals). counts_of t cut) (c.tell_each_lost.ensures.counts ∙ ap (λ (l : List FailedPath). counts_of old (map lost_path l)) c.as_slice.ensures.value))
    ∙ counts_then (counts_of old lost) cut none ∙ counts_then old lost (cut ++ none)

pub returns-clause-shown : goal.returns-clause-shown
returns-clause-shown g c =
    let found = c.args.found.now in
    let form = c.args.check.now.report.state.form in
    let empty : c.is_empty.result ≡ (length found.scripts.items == 0) = c.is_empty.ensures ∙ ap (λ (l : List (String Global)). length l == 0) c.as_slice-2.ensures.value in
    along (ap (λ (l : List FailedPath). paths_text form l ++ (whole_text form found.is_cut OutOfMemory ++ whole_text form c.is_empty.result NoScripts)) c.as_slice.ensures.value
    ∙ ap (λ (b : Bool). paths_text form found.lost.items ++ (whole_text form found.is_cut OutOfMemory ++ whole_text form b NoScripts)) empty)
    (goes_on (λ (f : ReportForm). whole_text f found.is_cut OutOfMemory ++ whole_text f c.is_empty.result NoScripts) c.tell_each_lost.ensures.shown
    (goes_on (λ (f : ReportForm). whole_text f c.is_empty.result NoScripts) c.tell_if.ensures.shown c.tell_if-2.ensures.shown))
