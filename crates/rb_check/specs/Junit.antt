-- The report of scripts as JUnit's XML, as GitLab and Jenkins read it: for each script a suite with one case. (This project's.)
use Rattle.std.specs.Prelude.{ℕ, ◌==◌, Bool, if◌then◌else◌, List, [], ◌++◌, Option, codes, decimal, length}
use Rattle.std.specs.List.{flat_map}
use Rattle.rb_report.specs.declared.check.colors.Colors.TheVariants.{Off}
use Rattle.rb_report.specs.declared.check.status.Status.{Status}
use Rattle.rb_report.specs.declared.check.status.Status.TheVariants.{Matched}
use Rattle.rb_report.specs.Counts.{nothing, status_of}
use Rattle.rb_report.specs.Names.{shown_name}
use Rattle.rb_report.specs.Notices.{warning_text}
use Rattle.rb_report.specs.Refusals.{at_line}
use Rattle.rb_script_report.specs.declared.view.Detail.TheVariants.{Differing}
use Rattle.rb_script_report.specs.declared.warning.Warning.{Warning}
use Rattle.rb_script_report.specs.Whys.{told_text}
use Rattle.rb_check.specs.declared.junit.CaseVerdict.{CaseVerdict}
use Rattle.rb_check.specs.declared.junit.CaseVerdict.TheVariants.{Passes, Fails, Errs}
use Rattle.rb_check.specs.declared.kind.NoticeKind.{NoticeKind}
use Rattle.rb_check.specs.declared.kind.NoticeKind.TheVariants as kinds
use Rattle.rb_check.specs.declared.script_result.PathResult.TheVariants as paths
use Rattle.rb_check.specs.declared.script_result.ScriptResult.{ScriptResult}
use Rattle.rb_check.specs.Commands.{without_front}
use Rattle.rb_check.specs.Results.{counts_with}
use Rattle.rb_check.specs.Subjects.{PlainChecked, result_of, warnings_in}
use Rattle.rb_check.specs.Xml.{in_text, in_value, line_end}

-- ---- a suite

-- the number of its cases, its failures and its errors
abbrev pub counts_of : CaseVerdict → List ℕ
counts_of Passes = codes "\" tests=\"1\" failures=\"0\" errors=\"0\">"
counts_of Fails = codes "\" tests=\"1\" failures=\"1\" errors=\"0\">"
counts_of Errs = codes "\" tests=\"1\" failures=\"0\" errors=\"1\">"

-- the elements of its case: none, if it passes and there are no details
abbrev pub body_of : CaseVerdict → List ℕ → List ℕ → List ℕ
body_of Passes message details = if length details == 0 then [] else codes "<system-out>" ++ (flat_map in_text details ++ codes "</system-out>")
body_of Fails message details = codes "<failure type=\"mismatch\" message=\"" ++ (flat_map in_value message ++ (codes "\">" ++ (flat_map in_text details ++ codes "</failure>")))
body_of Errs message details = codes "<error type=\"refused\" message=\"" ++ (flat_map in_value message ++ (codes "\">" ++ (flat_map in_text details ++ codes "</error>")))

-- its case has the file's path in the repository, and a line of the file, if there is one
abbrev pub suite_front : List ℕ → Option ℕ → CaseVerdict → List ℕ
suite_front path line verdict =
    codes "<testsuite name=\"" ++ (flat_map in_value path ++ (counts_of verdict ++ (codes "<testcase classname=\"raftbench\" name=\""
    ++ (flat_map in_value path ++ (codes "\" file=\"" ++ (flat_map in_value (without_front (codes "./") path) ++ line_end line))))))

abbrev pub suite_text : List ℕ → Option ℕ → CaseVerdict → List ℕ → List ℕ → List ℕ
suite_text path line verdict message details = suite_front path line verdict ++ (body_of verdict message details ++ codes "</testcase></testsuite>\n")

-- ---- a script that ran

-- it passes, where its status alone would be 0
abbrev pub verdict_by : Status → CaseVerdict
verdict_by Matched = Passes
verdict_by other = Fails

abbrev pub verdict_of : Bool → ScriptResult → CaseVerdict
verdict_of strict r = verdict_by (status_of strict (counts_with nothing (paths.Ran r)))

abbrev pub message_with : ℕ → ℕ → ℕ → List ℕ
message_with mismatches errors warnings = codes "mismatches: " ++ (decimal mismatches ++ (codes ", errors: " ++ (decimal errors ++ (codes ", warnings: " ++ decimal warnings))))

abbrev pub message_of : ScriptResult → List ℕ
message_of r = message_with r.left r.errors r.warnings

abbrev pub warnings_text : List ℕ → List Warning → List ℕ
warnings_text path ws = flat_map (λ w. warning_text path w.line w.doubt) ws

-- the script's report for people: its warnings, its mismatches and its new errors
abbrev pub details_of : PlainChecked → List ℕ
details_of c = warnings_text c.path (warnings_in c) ++ told_text Differing Off c.layout.text c.path c.whys c.layout.heads.items c.script

-- its case is on the line of the first mismatch
abbrev pub script_suite : Bool → PlainChecked → List ℕ
script_suite strict c = suite_text c.path (result_of c).first (verdict_of strict (result_of c)) (message_of (result_of c)) (details_of c)

-- ---- notices about a script

-- its line, and the message
abbrev pub placed : List ℕ → Option ℕ → List ℕ → List ℕ
placed path line message = shown_name path ++ (at_line line ++ (codes ": " ++ (message ++ codes "\n")))

-- a warning is in the suite of the script's run
abbrev pub notice_suite : List ℕ → Option ℕ → NoticeKind → List ℕ → List ℕ
notice_suite path line kinds.Refused message = suite_text path line Errs message (placed path line message)
notice_suite path line kinds.Failed message = suite_text path line Errs message (placed path line message)
notice_suite path line kinds.Warning message = []
notice_suite path line kinds.Left message = suite_text path line Passes message (placed path line message)
notice_suite path line kinds.Accepted message = suite_text path line Passes message (placed path line message)
