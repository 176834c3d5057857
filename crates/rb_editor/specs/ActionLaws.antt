-- What holds of what an editor is shown. (This project's.)
use Rattle.std.specs.Prelude.{◌≡◌, ◌≢◌, ℕ, ◌≤◌, true, false, min, List, ◌∷◌, ◌++◌, [], codes, decimal, filter, length, map, take, drop, slice_index, Option, Some, None, Ok}
use Rattle.std.specs.List.{AllByRecursion, list_any}
use Rattle.serde_json.specs.Data.{Data}
use Rattle.rb_script.specs.declared.limits.TheConstants.{MAX_SCRIPT, MAX_LINE}
use Rattle.rb_script.specs.Lines.{Line, lines}
use Rattle.rb_script.specs.LineParts.{IsSolid}
use Rattle.rb_script.specs.HeadLines.{AreHeadLines}
use Rattle.rb_script.specs.Reads.{Reads, ReadsSome}
use Rattle.rb_script.specs.Script.{PlainBlock, PlainScript, expecting, text}
use Rattle.rb_script.specs.Reading.{read_of}
use Rattle.rb_replay.specs.Run.{outputs, state}
use Rattle.rb_replay.specs.Report.{mismatches}
use Rattle.rb_lsp.specs.declared.document.position.Encoding.{Encoding}
use Rattle.rb_lsp.specs.Places.{begins}
use Rattle.rb_lsp.specs.Changes.{changed, spliced}
use Rattle.rb_lsp.specs.Tables.{feed_start}
use Rattle.rb_lsp.specs.Said.{notification}
use Rattle.rb_lsp.specs.Replies.{PlainServer, On, told_of, turned_by}
use Rattle.rb_lsp.specs.declared.server.reach.Reach.{Reach}
use Rattle.rb_lsp.specs.Methods.{method_of}
use Rattle.rb_lsp.specs.Notices.{notice_of}
use Rattle.rb_lsp.specs.Laws.{IsPublished}
use Rattle.rb_script_report.specs.declared.accept_options.AcceptFilter.{AcceptFilter}
use Rattle.rb_script_report.specs.Accepting.{accepted, accepted_lines, picked_unnamed}
use Rattle.rb_script_report.specs.Errors.{is_error}
use Rattle.rb_editor.specs.declared.actions.extent.Extent.{Extent}
use Rattle.rb_editor.specs.declared.actions.extent.LineSpan.{LineSpan}
use Rattle.rb_editor.specs.Extents.{extent_of}
use Rattle.rb_editor.specs.Ids.{id_offers, takes_ids}
use Rattle.rb_editor.specs.OfferLaws.{most_ids, numbers_from, words}
use Rattle.rb_editor.specs.Offers.{fits}
use Rattle.rb_editor.specs.Places.{PlainPlace}
use Rattle.rb_editor.specs.Unfinished.{name_of, wanted_of}
use Rattle.rb_editor.specs.Completing.{nodes_at}
use Rattle.rb_editor.specs.Actions.{but_new_errors, edits_asked, form, is_accepted, lines_range, picked_of}
use Rattle.rb_editor.specs.Findings.{slips_of}
use Rattle.rb_editor.specs.Edits.{edits_made, with_wanted}
use Rattle.rb_editor.specs.Meanings.{meaning}

-- the bytes are a script, each directive's output is the expected one, none is an error, and no line looks like a slip
pub record IsQuietText (bytes : List ℕ) : Type 0 where
  pub script : PlainScript
  pub reads : Reads bytes script
  pub same : mismatches script ≡ []
  pub no_error : list_any is_error (outputs script) ≡ false
  pub no_slip : slips_of bytes script ≡ []

-- Whatever was sent before, a notification about a document is followed by the diagnostics of one fresh run of the document's current text. If the run
-- stops, which it does only after MAX_WORK, they are those of the text above, and one that says where it stopped. If memory is refused, one diagnostic
-- says so. Any other notification is followed by nothing.
abbrev pub TextsHaveOneRun : Type 0
TextsHaveOneRun = (reach : Reach) (server next : PlainServer) (method : List ℕ) (params : Option Data)
    → turned_by server (notification method params) ≡ On next
    → IsPublished meaning reach server.documents next (notice_of server.phase (method_of method) params) (told_of meaning reach server (notification method params))

-- If the text above a place's block is a script, the ids that are offered are those of the cluster's nodes after one fresh run of that script. An
-- `add-nodes` also offers those that it adds.
abbrev pub IdsAreOfTheCluster : Type 0
IdsAreOfTheCluster = (text head : List ℕ) (p : PlainPlace) (s : PlainScript) → p.head ≡ Some head → read_of (take p.block text) ≡ Ok s → name_of head ≢ codes "add-nodes"
    → takes_ids head (wanted_of head) ≡ true
    → words (id_offers (nodes_at text p) head (wanted_of head)) ≡ filter (fits (wanted_of head)) (map decimal (numbers_from 1 (min (length (state s (length s.blocks)).nodes) most_ids)))

-- a directive expects its output if that is accepted, and otherwise what it expected before, as with `check --accept`
abbrev pub AcceptsAsCheckDoes : Type 0
AcceptsAsCheckDoes = (picked : AcceptFilter) (ls : List Line) (line : ℕ) (b : PlainBlock) (output : List Line)
    → (is_accepted picked ls line b output ≡ true → accepted_lines (but_new_errors picked) ls line b output ≡ output) × (is_accepted picked ls line b output ≡ false → accepted_lines (but_new_errors picked) ls line b output ≡ b.expected)

-- The edits of the action for all directives make the script that `check --accept` writes if no directive is named.
abbrev pub MakesWhatCheckWrites : Type 0
MakesWhatCheckWrites = (bytes : List ℕ) (s : PlainScript) (heads : List ℕ) → Reads bytes s → AreHeadLines 1 (lines bytes) s.blocks heads
    → with_wanted bytes s (picked_of bytes s) None ≡ accepted (but_new_errors (picked_unnamed false (lines bytes) heads s)) (lines bytes) heads s

-- An editor that replaces such a range replaces these lines and nothing else, if each line begins with a character, as in UTF-8.
abbrev pub EditsReplaceLines : Type 0
EditsReplaceLines = (encoding : Encoding) (text new : List ℕ) (first behind : ℕ) → first ≤ behind
    → begins (drop (feed_start first text) text) ≡ true → begins (drop (feed_start behind text) text) ≡ true
    → changed encoding (lines_range encoding text first behind) new text ≡ spliced (feed_start first text) (feed_start behind text) new text

-- the lines of a script, with an output in place of the expectation in this extent
abbrev pub with_lines : List Line → Extent → List Line → List Line
with_lines ls e output = take e.expected ls ++ (form e.is_double output ++ drop e.end ls)

-- If an output replaces a directive's expectation, the lines read as the script in which the directive expects the output.
abbrev pub EditedLinesRead : Type 0
EditedLinesRead = (ls tail : List Line) (before later : List PlainBlock) (b : PlainBlock) (output : List Line) (heads : List ℕ)
    → ReadsSome ls (before ++ b ∷ later) tail → AreHeadLines 1 ls (before ++ b ∷ later) heads → AllByRecursion IsSolid output
    → ReadsSome (with_lines ls (extent_of ls (slice_index heads (length before)) b) output) (before ++ expecting b output ∷ later) tail

-- the bytes, and the script that they have to be, are short enough for a script
pub record AreShort (bytes : List ℕ) (s : PlainScript) : Type 0 where
  pub short : length bytes ≤ MAX_SCRIPT
  pub short_lines : AllByRecursion (λ line. length line ≤ MAX_LINE) (lines bytes)
  pub short_text : length (text s) ≤ MAX_SCRIPT

-- Once an editor has made an action's edits, the text reads as the script in which each picked directive expects its actual output, and the others
-- expect what they did before. Each line has to begin with a character, as in UTF-8, and the text must not become too long.
abbrev pub EditedTextsRead : Type 0
EditedTextsRead = (encoding : Encoding) (bytes : List ℕ) (s : PlainScript) (picked : AcceptFilter) (span : Option LineSpan)
    → Reads bytes s → AllByRecursion (λ output. AllByRecursion IsSolid output) (outputs s) → ((n : ℕ) → begins (drop (feed_start n bytes) bytes) ≡ true)
    → AreShort (edits_made encoding bytes (edits_asked encoding bytes s picked span)) (with_wanted bytes s picked span)
    → Reads (edits_made encoding bytes (edits_asked encoding bytes s picked span)) (with_wanted bytes s picked span)
