-- Code actions: corrections, and edits of expectations that accept outputs. (LSP 3.17, "Code Action Request", "WorkspaceEdit" and "TextEdit". What is accepted
-- is what `check --accept` accepts.)
use Rattle.std.specs.Prelude.{ℕ, ◌-◌, ◌==◌, Bool, true, false, ◌&&◌, ◌||◌, not, nat_le, if◌then◌else◌, List, [], ◌∷◌, ◌++◌, codes, length, slice_get, Option, Some, None, Result, Ok, Err}
use Rattle.std.specs.List.{flat_map}
use Rattle.rb_script.specs.declared.fault.ScriptFault.{ScriptFault}
use Rattle.rb_script.specs.Lines.{Line, lines, text_of}
use Rattle.rb_script.specs.Marks.{rule}
use Rattle.rb_script.specs.Script.{PlainBlock, PlainScript}
use Rattle.rb_script.specs.Reading.{read_of}
use Rattle.rb_replay.specs.Run.{outputs}
use Rattle.rb_replay.specs.Report.{same_lines}
use Rattle.rb_report.specs.declared.check.warning_kind.WarningKind.{WarningKind}
use Rattle.rb_report.specs.declared.check.warning_kind.WarningKind.TheVariants.{InExpectation, InInput, Unread}
use Rattle.rb_script_report.specs.declared.warning.Warning.{Warning}
use Rattle.rb_script_report.specs.declared.accept_options.AcceptFilter.{AcceptFilter}
use Rattle.rb_script_report.specs.declared.accept_options.AcceptFilter.TheVariants as picks
use Rattle.rb_script_report.specs.declared.accept_options.AcceptOptions.{AcceptOptions}
use Rattle.rb_script_report.specs.Accepting.{is_left, picked_unnamed}
use Rattle.rb_script_report.specs.Checked.{of_each}
use Rattle.rb_text.specs.Json.{escaped}
use Rattle.rb_lsp.specs.declared.document.position.Encoding.{Encoding}
use Rattle.rb_lsp.specs.declared.document.position.Range.{Range}
use Rattle.rb_lsp.specs.Tables.{start_of}
use Rattle.rb_editor.specs.Heads.{heads_of}
use Rattle.rb_editor.specs.Texts.{range_member}
use Rattle.rb_editor.specs.declared.actions.extent.Extent.{Extent}
use Rattle.rb_editor.specs.declared.actions.extent.LineSpan.{LineSpan}
use Rattle.rb_editor.specs.Corrections.{corrections}
use Rattle.rb_editor.specs.Findings.{slips_of}
use Rattle.rb_editor.specs.Layouts.{line_at}
use Rattle.rb_editor.specs.Extents.{extent_of, has_line}

-- the outputs of the picked directives but new errors
abbrev pub but_new_errors : AcceptFilter → AcceptOptions
but_new_errors picked = record { picked = picked; errors = false }

-- whether the output of a directive, whose head is on the line, differs from the expectation and is accepted
abbrev pub is_accepted : AcceptFilter → List Line → ℕ → PlainBlock → List Line → Bool
is_accepted picked ls line b output = not (same_lines b.expected output || is_left (but_new_errors picked) ls line b output)

-- whether a directive has one of these lines; true if no lines are given
abbrev pub is_among : Option LineSpan → Extent → Bool
is_among None e = not false
is_among (Some span) e = has_line span.first span.last e

unfoldable pub is_wanted : AcceptFilter → Option LineSpan → List Line → ℕ → PlainBlock → List Line → Bool
is_wanted picked span ls line b output = is_accepted picked ls line b output && is_among span (extent_of ls line b)

-- ---- the edit of one expectation

abbrev pub is_feed : Option ℕ → Bool
is_feed None = false
is_feed (Some b) = b == 10

-- the last line has an end
abbrev pub has_end : List ℕ → Bool
has_end text = is_feed (slice_get text (length text - 1))

-- the line feed that the text's last line lacks, if the expectation comes after it
abbrev pub end_above : List ℕ → List Line → Extent → List ℕ
end_above text ls e = if nat_le (length ls) e.expected && not (has_end text) then 10 ∷ [] else []

-- lines in one of the forms of an expectation
abbrev pub form : Bool → List Line → List Line
form is_double output = if is_double then rule ∷ output ++ rule ∷ rule ∷ [] else output

-- The text that replaces an expectation: it stays in its form. Each output can have the plain form, since none of its lines is blank or `----`.
unfoldable pub new_text : List ℕ → List Line → Extent → List Line → List ℕ
new_text text ls e output = end_above text ls e ++ text_of (form e.is_double output)

-- an edit: the text in the range is replaced
pub record PlainEdit : Type 0 where
  pub range : Range
  pub new : List ℕ

-- the range of a script's lines from `first` up to `behind`
abbrev pub lines_range : Encoding → List ℕ → ℕ → ℕ → Range
lines_range encoding text first behind = record { start = start_of encoding first text; end = start_of encoding behind text }

-- the edit after which the directive expects this output
abbrev pub edit_of : Encoding → List ℕ → Extent → List Line → PlainEdit
edit_of encoding text e output = record { range = lines_range encoding text e.expected e.end; new = new_text text (lines text) e output }

-- an edit in JSON
abbrev pub member_of : PlainEdit → List ℕ
member_of e = range_member e.range.start e.range.end ++ (codes ",\"newText\":\"" ++ (flat_map escaped e.new ++ codes "\"}"))

-- the edit in JSON that replaces the expectation in this extent
unfoldable pub edit_text : Encoding → List ℕ → Extent → List ℕ → List ℕ
edit_text encoding text e new = member_of (record { range = lines_range encoding text e.expected e.end; new = new })

-- ---- the edits of some

-- a comma, if others are before
abbrev pub comma_if : Bool → List ℕ
comma_if later = if later then codes "," else []

-- the edit of a directive, if it is wanted
unfoldable pub one_edit : Encoding → List ℕ → AcceptFilter → Option LineSpan → Bool → ℕ → PlainBlock → List Line → List ℕ
one_edit encoding text picked span later line b output =
    if is_wanted picked span (lines text) line b output
    then comma_if later ++ edit_text encoding text (extent_of (lines text) line b) (new_text text (lines text) (extent_of (lines text) line b) output)
    else []

-- which directives are wanted: by the lines of their heads, and by their outputs
abbrev pub Picks : Type 0
Picks = ℕ → PlainBlock → List Line → Bool

-- the edits of the directives that are wanted, in order
abbrev pub edits_in : Picks → Encoding → List ℕ → List ℕ → List PlainBlock → List (List Line) → List PlainEdit
edits_in picks encoding text heads bs os =
    of_each (λ line b output. if picks line b output then edit_of encoding text (extent_of (lines text) line b) output ∷ [] else []) heads bs os

-- edits in JSON, with a comma in front if others are before
abbrev pub listed : Bool → List PlainEdit → List ℕ
listed later [] = []
listed later (e ∷ es) = comma_if later ++ (member_of e ++ listed true es)

-- those of an action
abbrev pub edits_asked : Encoding → List ℕ → PlainScript → AcceptFilter → Option LineSpan → List PlainEdit
edits_asked encoding text s picked span = edits_in (is_wanted picked span (lines text)) encoding text (heads_of text s) s.blocks (outputs s)

-- ---- actions

-- the title and the kind of an action, which is for some lines or for all
unfoldable pub action_head : Option LineSpan → List ℕ
action_head (Some span) = codes "{\"title\":\"Accept the actual output\",\"kind\":\"quickfix\",\"edit\":{\"changes\":{\""
action_head None = codes "{\"title\":\"Accept all actual outputs\",\"kind\":\"source\",\"edit\":{\"changes\":{\""

-- an action with these edits
unfoldable pub action_text : List ℕ → Option LineSpan → List ℕ → List ℕ
action_text uri span edits = action_head span ++ (flat_map escaped uri ++ (codes "\":[" ++ (edits ++ codes "]}}}")))

-- the action, if it has edits, with a comma in front if others are before
abbrev pub action_if : List ℕ → Option LineSpan → Bool → List ℕ → List ℕ
action_if uri span later edits = if length edits == 0 then [] else comma_if later ++ action_text uri span edits

-- The list of actions: the correction, the action for some lines, and the action for all, each if it has edits. Lines below a new error have edits
-- where the action for all has none.
unfoldable pub actions_text : List ℕ → List ℕ → LineSpan → List ℕ → List ℕ → List ℕ
actions_text uri correction span here all =
    codes "[" ++ (correction ++ (action_if uri (Some span) (not (length correction == 0)) here ++ (action_if uri None (not (length correction == 0) || not (length here == 0)) all ++ codes "]")))

abbrev pub edits_of : Encoding → List ℕ → PlainScript → AcceptFilter → Option LineSpan → List ℕ
edits_of encoding text s picked span = listed false (edits_asked encoding text s picked span)

-- ---- quick fixes of lines that look like a mistake

-- the line, which counts from 1, is one of these
abbrev pub is_within : LineSpan → Warning → Bool
is_within span w = nat_le span.first (w.line - 1) && nat_le (w.line - 1) span.last

abbrev pub first_within : LineSpan → List Warning → Option Warning
first_within span [] = None
first_within span (w ∷ ws) = if is_within span w then Some w else first_within span ws

-- what is missing above a line
unfoldable pub missing : WarningKind → List ℕ
missing InExpectation = codes "\n"
missing InInput = codes "----\n\n"
missing Unread = codes "----\n"

unfoldable pub fix_head : WarningKind → List ℕ
fix_head InExpectation = codes "{\"title\":\"Insert the missing empty line\",\"kind\":\"quickfix\",\"edit\":{\"changes\":{\""
fix_head InInput = codes "{\"title\":\"Insert the missing ---- and an empty line\",\"kind\":\"quickfix\",\"edit\":{\"changes\":{\""
fix_head Unread = codes "{\"title\":\"Insert the missing ----\",\"kind\":\"quickfix\",\"edit\":{\"changes\":{\""

-- above a line, which counts from 0
abbrev pub above : ℕ → Extent
above n = record { head = n; expected = n; end = n; is_double = false }

-- an action that puts in what is missing above the line
unfoldable pub fix_text : Encoding → List ℕ → List ℕ → Warning → List ℕ
fix_text encoding uri text w =
    fix_head w.doubt ++ (flat_map escaped uri ++ (codes "\":[" ++ (edit_text encoding text (above (w.line - 1)) (missing w.doubt) ++ codes "]}}}")))

abbrev pub fix_if : Encoding → List ℕ → List ℕ → Option Warning → List ℕ
fix_if encoding uri text None = []
fix_if encoding uri text (Some w) = fix_text encoding uri text w

unfoldable pub fixes_text : Encoding → List ℕ → List ℕ → Option Warning → List ℕ
fixes_text encoding uri text found = codes "[" ++ (fix_if encoding uri text found ++ codes "]")

-- ---- of a text

-- the lines on which a range begins and ends
abbrev pub span_of : Encoding → Range → List ℕ → LineSpan
span_of encoding range text = record { first = line_at encoding range.start text; last = line_at encoding range.end text }

-- what `check --accept` picks in a script if no directive is named: nothing below the first new error
abbrev pub picked_of : List ℕ → PlainScript → AcceptFilter
picked_of text s = picked_unnamed false (lines text) (heads_of text s) s

-- The actions for a script without warnings. For some lines outputs are accepted below a new error too, as by `check --accept` if directives are named.
abbrev pub accepting : Encoding → List ℕ → List ℕ → PlainScript → LineSpan → List ℕ
accepting encoding uri text s span =
    actions_text uri (corrections encoding uri text span (heads_of text s) s.blocks) span (edits_of encoding text s picks.All (Some span)) (edits_of encoding text s (picked_of text s) None)

-- The actions for a text that reads as this. If there is a warning nothing is accepted, as by `check --accept`: the expectation around it may contain
-- directives.
abbrev pub actions_of : Encoding → Range → List ℕ → List ℕ → Result PlainScript ScriptFault → List ℕ
actions_of encoding range uri text (Err fault) = codes "[]"
actions_of encoding range uri text (Ok s) =
    if length (slips_of text s) == 0
    then accepting encoding uri text s (span_of encoding range text)
    else fixes_text encoding uri text (first_within (span_of encoding range text) (slips_of text s))

unfoldable pub actions : Encoding → Range → List ℕ → List ℕ → List ℕ
actions encoding range uri text = actions_of encoding range uri text (read_of text)
