-- Edits, directive by directive, and what is accepted.
use Rattle.std.proofs.Common.{◌≡◌, ◌∙◌, ℕ, ◌+◌, ◌≤◌, Bool, true, false, List, [], ◌∷◌, ◌++◌, length, drop, Option, Some, None, refl, ap, ap₂, sym, arith, append_assoc, append-nil}
use Rattle.std.proofs.Math.Bool.{or-false, or-true}
use Rattle.std.specs.Prelude.{◌==◌, if◌then◌else◌, ◌&&◌, ◌||◌, not, slice_get, codes, Ok}
use Rattle.rb_script.specs.Lines.{Line, lines}
use Rattle.rb_script.specs.Script.{PlainBlock, PlainScript, all_expecting, expecting}
use Rattle.rb_script.specs.Reads.{Reads}
use Rattle.rb_script.specs.HeadLines.{AreHeadLines}
use Rattle.rb_script.proofs.ScriptLaws.{read_complete}
use Rattle.rb_replay.specs.Run.{outputs}
use Rattle.rb_replay.specs.Report.{same_lines}
use Rattle.rb_replay.proofs.DifferingLaws.{same_lines-Decides}
use Rattle.rb_script_report.specs.declared.accept_options.AcceptFilter.{AcceptFilter}
use Rattle.rb_script_report.specs.declared.warning.Warning.{Warning}
use Rattle.rb_script_report.specs.Accepting.{accepted, accepted_lines, accepted_of, is_picked, picked_unnamed}
use Rattle.rb_script_report.specs.Checked.{of_each}
use Rattle.rb_script_report.specs.Errors.{is_unexpected}
use Rattle.rb_script_report.proofs.EachLaws.{each_all, each_more}
use Rattle.rb_script_report.proofs.ShownLaws.{outputs_len}
use Rattle.rb_lsp.specs.declared.document.position.Encoding.{Encoding}
use Rattle.rb_lsp.specs.declared.document.position.Range.{Range}
use Rattle.rb_editor.specs.declared.actions.extent.LineSpan.{LineSpan}
use Rattle.rb_editor.specs.Heads.{heads_of}
use Rattle.rb_editor.specs.Findings.{slips_of}
use Rattle.rb_editor.specs.Layouts.{IsLayout, IsNoScript}
use Rattle.rb_editor.specs.declared.actions.layout.ScriptLayout.{ScriptLayout}
use Rattle.rb_editor.specs.Extents.{extent_of}
use Rattle.rb_editor.specs.Actions.{PlainEdit, accepting, actions, actions_of, but_new_errors, comma_if, edit_of, edit_text, first_within, fixes_text, is_accepted, is_wanted, listed, member_of, one_edit, picked_of, span_of}
use Rattle.rb_editor.specs.Edits.{with_picked, with_wanted}
use Rattle.rb_editor.proofs.HeadLaws.{heads_are}

-- the edit of one directive, if it is wanted, and those behind it
listed_more : (later wanted : Bool) (e : PlainEdit) (es : List PlainEdit) → (if wanted then comma_if later ++ member_of e else []) ++ listed (later || wanted) es ≡ listed later ((if wanted then e ∷ [] else []) ++ es)
listed_more later true e es = ap (λ (x : Bool). (comma_if later ++ member_of e) ++ listed x es) (or-true later) ∙ append_assoc (comma_if later) (member_of e) (listed true es)
listed_more later false e es = ap (λ (x : Bool). listed x es) (or-false later)

-- that of a directive
abbrev pub one_of : Encoding → List ℕ → AcceptFilter → Option LineSpan → ℕ → PlainBlock → List Line → List PlainEdit
one_of encoding text picked span line b output = if is_wanted picked span (lines text) line b output then edit_of encoding text (extent_of (lines text) line b) output ∷ [] else []

-- the edit of one directive more went out, behind those so far
pub edits_more : (encoding : Encoding) (text : List ℕ) (picked : AcceptFilter) (span : Option LineSpan) (later : Bool) (heads : List ℕ) (bs : List PlainBlock) (os : List (List Line)) (i line : ℕ) (b : PlainBlock) (o : List Line) (out new total : List ℕ) (behind : Bool)
    → slice_get heads i ≡ Some line → slice_get bs i ≡ Some b → slice_get os i ≡ Some o → new ≡ out ++ one_edit encoding text picked span later line b o → behind ≡ (later || is_wanted picked span (lines text) line b o)
    → out ++ listed later (of_each (one_of encoding text picked span) (drop i heads) (drop i bs) (drop i os)) ≡ total → new ++ listed behind (of_each (one_of encoding text picked span) (drop (i + 1) heads) (drop (i + 1) bs) (drop (i + 1) os)) ≡ total
unfolding one_edit edit_text
edits_more encoding text picked span later heads bs os i line b o out new total behind there block output more is far =
    let one = one_of encoding text picked span in
    let w = is_wanted picked span (lines text) line b o in
    let rest = of_each one (drop (i + 1) heads) (drop (i + 1) bs) (drop (i + 1) os) in
    ap (λ (l : List ℕ). l ++ listed behind rest) more
    ∙ append_assoc out (one_edit encoding text picked span later line b o) (listed behind rest)
    ∙ ap (λ (x : Bool). out ++ (one_edit encoding text picked span later line b o ++ listed x rest)) is
    ∙ ap (λ (l : List ℕ). out ++ l) (listed_more later w (edit_of encoding text (extent_of (lines text) line b) o) rest)
    ∙ ap (λ (es : List PlainEdit). out ++ listed later es) (each_more one heads bs os i line b o [] (one line b o) (of_each one (drop i heads) (drop i bs) (drop i os)) there block output refl refl)
    ∙ far

-- all of them went out
pub edits_last : (encoding : Encoding) (text : List ℕ) (picked : AcceptFilter) (span : Option LineSpan) (later : Bool) (heads : List ℕ) (bs : List PlainBlock) (os : List (List Line)) (i : ℕ) (out total : List ℕ) → length bs ≤ i
    → out ++ listed later (of_each (one_of encoding text picked span) (drop i heads) (drop i bs) (drop i os)) ≡ total → out ≡ total
edits_last encoding text picked span later heads bs os i out total past far =
    let one = one_of encoding text picked span in
    sym (append-nil out) ∙ ap (λ (es : List PlainEdit). out ++ listed later es) (each_all one heads bs os i [] (of_each one (drop i heads) (drop i bs) (drop i os)) past refl) ∙ far

-- ---- of a text

-- of a script
of_read : (encoding : Encoding) (range : Range) (uri text : List ℕ) (s : PlainScript) → Reads text s
    → actions_of encoding range uri text (Ok s) ≡ actions encoding range uri text
unfolding actions
of_read encoding range uri text s reads = ap (actions_of encoding range uri text) (sym (read_complete text s reads))

-- of the text of a run, no line of which looks like a slip
pub of_run : (known encoding : Encoding) (range : Range) (uri bytes text : List ℕ) (s : PlainScript) (layout : ScriptLayout) (ws : List Warning) → IsLayout known bytes s layout → text ≡ bytes
    → ws ≡ layout.slips.items → (length ws == 0) ≡ true
    → accepting encoding uri bytes s (span_of encoding range text) ≡ actions encoding range uri bytes
of_run known encoding range uri bytes text s layout ws is same are none =
    let all = λ (x : List ℕ). accepting encoding uri bytes s (span_of encoding range x) in
    let fixes = fixes_text encoding uri bytes (first_within (span_of encoding range bytes) (slips_of bytes s)) in
    let empty : (length (slips_of bytes s) == 0) ≡ true = ap (λ (l : List Warning). length l == 0) (sym (are ∙ is.slips_are)) ∙ none in
    ap all same ∙ sym (ap (λ (b : Bool). if b then all bytes else fixes) empty) ∙ of_read encoding range uri bytes s is.reads

-- and where one does
pub of_slips : (known encoding : Encoding) (range : Range) (uri bytes text : List ℕ) (s : PlainScript) (layout : ScriptLayout) (ws : List Warning) → IsLayout known bytes s layout → text ≡ bytes
    → ws ≡ layout.slips.items → (length ws == 0) ≡ false
    → fixes_text encoding uri text (first_within (span_of encoding range text) ws) ≡ actions encoding range uri bytes
of_slips known encoding range uri bytes text s layout ws is same are some =
    let all = accepting encoding uri bytes s (span_of encoding range bytes) in
    let fixes = fixes_text encoding uri bytes (first_within (span_of encoding range bytes) (slips_of bytes s)) in
    let full : (length (slips_of bytes s) == 0) ≡ false = ap (λ (l : List Warning). length l == 0) (sym (are ∙ is.slips_are)) ∙ some in
    ap (λ (x : List ℕ). fixes_text encoding uri x (first_within (span_of encoding range x) ws)) same
    ∙ ap (λ (l : List Warning). fixes_text encoding uri bytes (first_within (span_of encoding range bytes) l)) (are ∙ is.slips_are)
    ∙ sym (ap (λ (b : Bool). if b then all else fixes) full)
    ∙ of_read encoding range uri bytes s is.reads

pub of_text : (encoding : Encoding) (range : Range) (uri text bytes : List ℕ) → bytes ≡ text → actions encoding range uri bytes ≡ actions encoding range uri text
of_text encoding range uri text bytes same = ap (actions encoding range uri) same

-- of what is none
pub of_none : (encoding : Encoding) (range : Range) (uri text : List ℕ) → IsNoScript text → codes "[]" ≡ actions encoding range uri text
unfolding actions
of_none encoding range uri text (fault, is) = ap (actions_of encoding range uri text) (sym is)

-- what is picked in all of it
pub picked_by : (known : Encoding) (bytes : List ℕ) (s t : PlainScript) (layout : ScriptLayout) (picked : AcceptFilter) → IsLayout known bytes s layout → t ≡ s
    → picked ≡ picked_unnamed false layout.script.text layout.script.heads.items t → picked ≡ picked_of bytes s
picked_by known bytes s t layout picked is script found =
    found
    ∙ ap (λ (x : PlainScript). picked_unnamed false layout.script.text layout.script.heads.items x) script
    ∙ ap (λ (ls : List Line). picked_unnamed false ls layout.script.heads.items s) is.lines_are
    ∙ ap (λ (ns : List ℕ). picked_unnamed false (lines bytes) ns s) is.heads_are

-- ---- what is accepted

-- of lines that are the same or not, and an output that is left or not
of_lines : (same left : Bool) (e o : List Line) → (same ≡ true → e ≡ o)
    → (not (same || (left && not same)) ≡ true → (if left && not same then e else o) ≡ o) × (not (same || (left && not same)) ≡ false → (if left && not same then e else o) ≡ e)
of_lines true true e o is = (λ yes. refl, λ no. sym (is refl))
of_lines true false e o is = (λ yes. refl, λ no. sym (is refl))
of_lines false true e o is = (λ yes. absurd cc, λ no. refl)
of_lines false false e o is = (λ yes. refl, λ no. absurd cc)

pub as_check_does : (picked : AcceptFilter) (ls : List Line) (line : ℕ) (b : PlainBlock) (output : List Line)
    → (is_accepted picked ls line b output ≡ true → accepted_lines (but_new_errors picked) ls line b output ≡ output) × (is_accepted picked ls line b output ≡ false → accepted_lines (but_new_errors picked) ls line b output ≡ b.expected)
as_check_does picked ls line b output = of_lines (same_lines b.expected output) (not (is_picked picked line) || (not false && is_unexpected ls line output)) b.expected output (same_lines-Decides b.expected output).0

-- ---- of a script

-- one directive of it
one_expects : (same left : Bool) (b : PlainBlock) (o : List Line) → (same ≡ true → b.expected ≡ o)
    → (if not (same || (left && not same)) && not false then expecting b o else b) ≡ expecting b (if left && not same then b.expected else o)
one_expects true true b o is = ap (expecting b) (is refl)
one_expects true false b o is = ap (expecting b) (is refl)
one_expects false true b o is = refl
one_expects false false b o is = refl

all_expect : (picked : AcceptFilter) (ls : List Line) (heads : List ℕ) (bs : List PlainBlock) (os : List (List Line)) → length heads ≡ length bs → length os ≡ length bs
    → with_picked (is_wanted picked None ls) heads bs os ≡ all_expecting bs (accepted_of (but_new_errors picked) ls heads bs os)
unfolding all_expecting is_wanted
all_expect picked ls heads [] os numbers whole = refl
all_expect picked ls [] (b ∷ bs) os numbers whole = absurd (omega (arith, numbers))
all_expect picked ls (n ∷ heads) (b ∷ bs) [] numbers whole = absurd (omega (arith, whole))
all_expect picked ls (n ∷ heads) (b ∷ bs) (o ∷ os) numbers whole =
    ap₂ (λ (c : PlainBlock) (cs : List PlainBlock). c ∷ cs)
    (one_expects (same_lines b.expected o) (not (is_picked picked n) || (not false && is_unexpected ls n o)) b o (same_lines-Decides b.expected o).0)
    (all_expect picked ls heads bs os (omega (arith, numbers)) (omega (arith, whole)))

pub as_check_writes : (bytes : List ℕ) (s : PlainScript) (heads : List ℕ) → Reads bytes s → AreHeadLines 1 (lines bytes) s.blocks heads
    → with_wanted bytes s (picked_of bytes s) None ≡ accepted (but_new_errors (picked_unnamed false (lines bytes) heads s)) (lines bytes) heads s
as_check_writes bytes s heads reads numbers =
    let named = heads_are bytes s heads reads numbers in
    let written = λ (ns : List ℕ). accepted (but_new_errors (picked_unnamed false (lines bytes) ns s)) (lines bytes) ns s in
    let count : length (heads_of bytes s) ≡ length s.blocks = ap (λ (ns : List ℕ). length ns) (sym named) ∙ numbers.count in
    ap (λ (bs : List PlainBlock). record { blocks = bs; tail = s.tail }) (all_expect (picked_of bytes s) (lines bytes) (heads_of bytes s) s.blocks (outputs s) count (outputs_len s))
    ∙ sym (ap written named)
