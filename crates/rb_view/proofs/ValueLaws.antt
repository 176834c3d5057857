-- The text of steps is a text of JSON, and its value is their rows.
use Rattle.std.proofs.Common.{◌≡◌, ◌∙◌, ℕ, true, List, [], ◌∷◌, ◌++◌, map, codes, refl, ap, sym, subst, append_assoc}
use Rattle.std.specs.Prelude.{◌&&◌}
use Rattle.std.specs.List.{flat_map, list_all}
use Rattle.std.proofs.lemmas.Bool.{and_from, and_parts}
use Rattle.rb_report.specs.declared.check.table.TheConstants.{MAX_SCRIPT_CELLS}
use Rattle.rb_report.specs.declared.check.warning_kind.WarningKind.{WarningKind}
use Rattle.rb_report.specs.declared.check.warning_kind.WarningKind.TheVariants as kinds
use Rattle.rb_report.specs.Hints.{PlainHint, meant, sentence, unknown}
use Rattle.rb_report.specs.Notices.{warning_sentence}
use Rattle.rb_texts.proofs.KindLaws.{joined_of}
use Rattle.rb_replay.specs.Run.{outputs}
use Rattle.rb_script_report.specs.Doubts.{all_warnings}
use Rattle.rb_script_report.specs.declared.warning.Warning.{Warning}
use Rattle.rb_script.specs.Lines.{Line, lines}
use Rattle.rb_script.specs.Reading.{directive_of}
use Rattle.rb_script.specs.Reads.{Reads}
use Rattle.rb_script.specs.Script.{PlainBlock, PlainScript}
use Rattle.rb_view.specs.Json.{AreRows, has_bytes, is_byte}
use Rattle.rb_view.specs.Kept.{joined, texts_of}
use Rattle.rb_view.specs.Rows.{Row, next_text, row_text, rows_text}
use Rattle.rb_view.proofs.JsonLaws.{rows_are}
use Rattle.rb_machine.specs.Cluster.{Cluster, empty}
use Rattle.rb_machine.specs.Outcome.{outcome}
use Rattle.rb_cluster.proofs.OutcomeLaws.{outcome_is_output}
use Rattle.rb_view.specs.Pages.{first_row, steps_text}
use Rattle.rb_script_report.specs.Checked.{meant_by}
use Rattle.rb_view.specs.Meant.{IsOfBytes, hint_rows}
use Rattle.rb_view.specs.Steps.{Step, end_row, hints, left_next, script_rows, source_row, step, step_texts, steps, steps_from, steps_texts, warning_row, warning_rows}
use Rattle.rb_view.specs.Watching.{observed_rows, observed_texts, written_last}
use Rattle.rb_view.specs.Values.{GoOnShowingBytes, all_rows, step_rows}
use Rattle.rb_view.proofs.LineByteLaws.{blocks_bytes, expects_bytes, lines_bytes, of_bytes}
use Rattle.rb_view.proofs.RowByteLaws.{all_both, changes_bytes, script_bytes}
use Rattle.rb_view.proofs.StepLaws.{both_joined, observed_joined, rows_joined}
use Rattle.rb_view.proofs.WatchLaws.{observed_bytes}

-- ---- the text is that of the rows

step_is : (s : Step) → joined (step_texts s) ≡ flat_map next_text (step_rows s)
step_is s =
    let script = script_rows s.left s.line s.block.expected s.output in
    let texts = observed_texts s.before s.observed in
    let rows = observed_rows s.before s.observed in
    both_joined (texts_of script) (texts ++ (texts_of s.changes ++ texts_of (hints s))) script (rows ++ (s.changes ++ hints s)) (rows_joined script)
    (both_joined texts (texts_of s.changes ++ texts_of (hints s)) rows (s.changes ++ hints s) (observed_joined s.before s.observed)
    (both_joined (texts_of s.changes) (texts_of (hints s)) s.changes (hints s) (rows_joined s.changes) (rows_joined (hints s))))

pub steps_are : (ss : List Step) → joined (flat_map step_texts ss) ≡ flat_map next_text (flat_map step_rows ss)
steps_are [] = refl
steps_are (s ∷ ss) = both_joined (step_texts s) (flat_map step_texts ss) (step_rows s) (flat_map step_rows ss) (step_is s) (steps_are ss)

text_is : (name bytes heads : List ℕ) (s : PlainScript) → steps_text name bytes heads s ≡ rows_text (first_row name) (all_rows bytes heads s)
text_is name bytes heads s =
    let last = end_row s ∷ [] in
    let doubts = warning_rows bytes heads s in
    let between = flat_map step_texts (steps heads s) in
    let rows = flat_map step_rows (steps heads s) in
    let texts : joined (steps_texts bytes heads s) ≡ flat_map next_text (all_rows bytes heads s) =
    both_joined (texts_of (source_row bytes ∷ [])) (between ++ (texts_of doubts ++ texts_of last)) (source_row bytes ∷ []) (rows ++ (doubts ++ last)) (rows_joined (source_row bytes ∷ []))
    (both_joined between (texts_of doubts ++ texts_of last) rows (doubts ++ last) (steps_are (steps heads s))
    (both_joined (texts_of doubts) (texts_of last) doubts last (rows_joined doubts) (rows_joined last))) in
    ap (λ (l : List ℕ). (codes "[" ++ row_text (first_row name)) ++ (l ++ codes "]\n")) texts
    ∙ append_assoc (codes "[") (row_text (first_row name)) (flat_map next_text (all_rows bytes heads s) ++ codes "]\n")

pub text_is_of_rows : (name bytes heads : List ℕ) (s : PlainScript) → (rest : List Row) × (steps_text name bytes heads s ≡ rows_text (first_row name) rest)
text_is_of_rows name bytes heads s = (all_rows bytes heads s, text_is name bytes heads s)

-- ---- the rows are of bytes

hints_bytes : (h : PlainHint) → IsOfBytes h → list_all has_bytes (hint_rows h) ≡ true
hints_bytes unknown h = refl
hints_bytes (meant word) h =
    and_from (of_bytes (codes "did you mean \"" ++ (word ++ codes "\"?")) && true) true
    (and_from (of_bytes (codes "did you mean \"" ++ (word ++ codes "\"?"))) true (joined_of is_byte word (codes "\"?") h refl) refl) refl
hints_bytes (sentence said) h = and_from (of_bytes said && true) true (and_from (of_bytes said) true h refl) refl

steps_bytes : (left : ℕ) (heads : List ℕ) (c : Cluster) (bs : List PlainBlock) → list_all expects_bytes bs ≡ true → GoOnShowingBytes c bs → list_all has_bytes (flat_map step_rows (steps_from left heads c bs)) ≡ true
steps_bytes left [] c bs expected shown = refl
steps_bytes left (line ∷ heads) c [] expected shown = refl
steps_bytes left (line ∷ heads) c (b ∷ bs) expected shown =
    let s = step left line c b in
    let after = (outcome c (directive_of b)).cluster in
    let p = and_parts (expects_bytes b) (list_all expects_bytes bs) expected in
    let next : ℕ = left_next left b.expected s.output in
    let script = script_rows left line b.expected s.output in
    let rows = observed_rows c.nodes s.observed in
    all_both (script ++ (rows ++ (s.changes ++ hints s))) (flat_map step_rows (steps_from next heads after bs))
    (all_both script (rows ++ (s.changes ++ hints s)) (script_bytes left line b.expected s.output p.0 (outcome_is_output c (directive_of b)))
    (all_both rows (s.changes ++ hints s) (observed_bytes c.nodes s.observed shown.0.0.0)
    (all_both s.changes (hints s) (changes_bytes (written_last c.nodes s.observed) after.nodes shown.0.0.1) (hints_bytes (meant_by b s.output) shown.0.1))))
    (steps_bytes next heads after bs p.1 shown.1)

sentence_bytes : (doubt : WarningKind) → of_bytes (warning_sentence doubt) ≡ true
sentence_bytes kinds.InExpectation = refl
sentence_bytes kinds.InInput = refl
sentence_bytes kinds.Unread = refl

warnings_bytes : (ws : List Warning) → list_all has_bytes (map warning_row ws) ≡ true
warnings_bytes [] = refl
warnings_bytes (w ∷ ws) =
    and_from (has_bytes (warning_row w)) (list_all has_bytes (map warning_row ws)) (and_from (of_bytes (warning_sentence w.doubt)) true (sentence_bytes w.doubt) refl)
    (warnings_bytes ws)

all_bytes : (name bytes heads : List ℕ) (s : PlainScript) → list_all is_byte name ≡ true → list_all is_byte bytes ≡ true → list_all expects_bytes s.blocks ≡ true
    → GoOnShowingBytes empty s.blocks → list_all has_bytes (first_row name ∷ all_rows bytes heads s) ≡ true
all_bytes name bytes heads s named of expected shown =
    let middle = flat_map step_rows (steps heads s) in
    let doubts = warning_rows bytes heads s in
    let last = end_row s ∷ [] in
    and_from (has_bytes (first_row name)) (list_all has_bytes (all_rows bytes heads s)) (and_from (of_bytes name) true named refl)
    (and_from (has_bytes (source_row bytes)) (list_all has_bytes (middle ++ (doubts ++ last))) (and_from (of_bytes bytes) true of refl)
    (all_both middle (doubts ++ last) (steps_bytes MAX_SCRIPT_CELLS heads empty s.blocks expected shown)
    (all_both doubts last (warnings_bytes (all_warnings (lines bytes) heads s.blocks (outputs s))) refl)))

pub text_is_json : (name bytes heads : List ℕ) (s : PlainScript) → list_all is_byte name ≡ true → list_all is_byte bytes ≡ true → Reads bytes s → GoOnShowingBytes empty s.blocks
    → AreRows (first_row name) (all_rows bytes heads s) (steps_text name bytes heads s)
text_is_json name bytes heads s named of reads shown =
    let expected = blocks_bytes s.blocks (lines bytes) s.tail reads.parts.0 (lines_bytes bytes of) in
    subst (λ (t : List ℕ). AreRows (first_row name) (all_rows bytes heads s) t) (sym (text_is name bytes heads s))
    (rows_are (first_row name) (all_rows bytes heads s) (all_bytes name bytes heads s named of expected shown))
