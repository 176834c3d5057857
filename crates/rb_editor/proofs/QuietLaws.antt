-- A script of which nothing is said.
use Rattle.std.proofs.Common.{◌≡◌, ◌∙◌, ℕ, ◌+◌, Bool, true, false, List, [], ◌∷◌, ◌++◌, map, refl, ap, ap₂, sym}
use Rattle.std.proofs.lemmas.Bool.{and_parts, eqb-true, not-true, or_parts}
use Rattle.std.proofs.lemmas.List.{nil_from_length}
use Rattle.std.specs.Prelude.{◌==◌, ◌&&◌, not, codes, length, Option, None}
use Rattle.std.specs.List.{list_any}
use Rattle.rb_script.specs.Lines.{Line, lines}
use Rattle.rb_script.specs.Script.{PlainBlock, PlainScript}
use Rattle.rb_lsp.specs.declared.server.client.Client.{Client}
use Rattle.rb_script_report.specs.declared.warning.Warning.{Warning}
use Rattle.rb_replay.specs.Run.{outputs}
use Rattle.rb_replay.specs.Report.{same_lines, differing, mismatches}
use Rattle.rb_script_report.specs.Errors.{is_error, is_unexpected, says_error}
use Rattle.rb_script_report.specs.Checked.{left_next}
use Rattle.rb_report.specs.declared.check.table.TheConstants.{MAX_SCRIPT_CELLS}
use Rattle.rb_lsp.proofs.PlaceLaws.{test_cases}
use Rattle.rb_editor.specs.Diagnostics.{PlainDiagnostic}
use Rattle.rb_editor.specs.Heads.{heads_of}
use Rattle.rb_editor.specs.Texts.{list_text, listed}
use Rattle.rb_editor.specs.Findings.{before, finding, findings, first_head, is_quiet, slip}
use Rattle.rb_editor.specs.Published.{diagnose, diagnostic_text}
use Rattle.rb_editor.specs.ActionLaws.{IsQuietText}
use Rattle.rb_editor.proofs.FindingLaws.{of_read}
use Rattle.rb_editor.proofs.ServedLaws.{shown_script}
use Rattle.rb_editor.specs.Served.{shown}
use Rattle.rb_editor.specs.declared.actions.told.TheConstants.{MAX_TOLD}
use Rattle.rb_editor.specs.Told.{all_told}

nothing_found : (left first : ℕ) (ls : List Line) (line : ℕ) (b : PlainBlock) (o : List Line) → same_lines b.expected o ≡ true → is_unexpected ls line o ≡ false → finding left first ls line b o ≡ None
unfolding finding
nothing_found left first ls line b o same unnamed = rw (same, unnamed) refl

quiet : (left first : ℕ) (ls : List Line) (heads : List ℕ) (bs : List PlainBlock) (os : List (List Line)) (p : ℕ) → differing p bs os ≡ [] → list_any is_error os ≡ false → findings left first ls heads bs os ≡ []
quiet left first ls (line ∷ heads) (b ∷ bs) (o ∷ os) p same none =
    let no = or_parts (is_error o) (list_any is_error os) none in
    let unnamed : is_unexpected ls line o ≡ false = ap (λ (t : Bool). t && not (says_error ls line)) no.0 in
    test_cases (same_lines b.expected o)
    (λ yes. let later : differing (p + 1) bs os ≡ [] = rw yes at same in
    ap (λ (found : Option PlainDiagnostic). before found [] ++ findings (left_next left b o) first ls heads bs os) (nothing_found left first ls line b o yes unnamed) ∙ quiet (left_next left b o) first ls heads bs os (p + 1) later no.1)
    (λ other. let one : p ∷ differing (p + 1) bs os ≡ [] = rw other at same in absurd cc)
quiet left first ls heads bs os p same none = refl

empty_list : (text : PlainDiagnostic → List ℕ) (ds : List PlainDiagnostic) → ds ≡ [] → list_text text ds ≡ codes "[]"
unfolding list_text listed
empty_list text ds none = ap (list_text text) none

-- ---- without its text

pub nothing_said : (left : ℕ) (ls : List Line) (heads : List ℕ) (s : PlainScript) → is_quiet s ≡ true → [] ≡ findings left (first_head heads (mismatches s)) ls heads s.blocks (outputs s)
nothing_said left ls heads s is =
    let p = and_parts (length (mismatches s) == 0) (not (list_any is_error (outputs s))) is in
    sym (quiet left (first_head heads (mismatches s)) ls heads s.blocks (outputs s) 1 (nil_from_length (mismatches s) (eqb-true (length (mismatches s)) 0 p.0)) (not-true (list_any is_error (outputs s)) p.1))

pub none_listed : (text : PlainDiagnostic → List ℕ) (left : ℕ) (ds : List PlainDiagnostic) → (length ds == 0) ≡ true → codes "[]" ≡ list_text text (all_told left ds)
none_listed text left ds none = sym (empty_list text (all_told left ds) (ap (all_told left) (nil_from_length ds (eqb-true (length ds) 0 none))))

pub quiet_text : (client : Client) (uri text : List ℕ) → IsQuietText text → diagnose None client uri text ≡ codes "[]"
quiet_text client uri text q =
    let heads = heads_of text q.script in
    let first = first_head heads (mismatches q.script) in
    let none : shown None text ≡ [] =
    shown_script text q.script None q.reads
    ∙ sym (of_read text q.script q.reads)
    ∙ ap₂ (λ (ds : List PlainDiagnostic) (ws : List Warning). ds ++ map slip ws) (quiet MAX_SCRIPT_CELLS first (lines text) heads q.script.blocks (outputs q.script) 1 q.same q.no_error) q.no_slip in
    empty_list (diagnostic_text client uri text) (all_told MAX_TOLD (shown None text)) (ap (all_told MAX_TOLD) none)
