-- What is to be said of the directives of a text.
use Rattle.std.proofs.Common.{◌≡◌, ◌∙◌, ℕ, ◌+◌, ◌-◌, ◌<◌, ◌≤◌, List, [], ◌∷◌, ◌++◌, length, map, take, get_or, Some, Err, ap, ap₂, sym, subst, arith, append_assoc}
use Rattle.std.specs.Prelude.{slice_get}
use Rattle.std.proofs.lemmas.List.{map-append, take_all, take_more}
use Rattle.std.proofs.lemmas.Option.{get_or_from_slice_get}
use Rattle.rb_script.specs.Lines.{Line, lines}
use Rattle.rb_script.specs.declared.fault.ScriptFault.{ScriptFault}
use Rattle.rb_script.specs.Script.{PlainBlock, PlainScript}
use Rattle.rb_script.specs.Reads.{Reads}
use Rattle.rb_script.specs.Reading.{read_of}
use Rattle.rb_script.specs.HeadLines.{AreHeadLines}
use Rattle.rb_script.proofs.ScriptLaws.{read_complete}
use Rattle.rb_replay.specs.Run.{outputs}
use Rattle.rb_replay.specs.Report.{mismatches}
use Rattle.rb_report.specs.declared.check.table.TheConstants.{MAX_SCRIPT_CELLS}
use Rattle.rb_script_report.specs.declared.warning.Warning.{Warning}
use Rattle.rb_editor.specs.BlockLines.{StandsIn}
use Rattle.rb_editor.proofs.BlockLaws.{all_stand}
use Rattle.rb_editor.specs.Heads.{heads_of}
use Rattle.rb_editor.specs.Diagnostics.{PlainDiagnostic}
use Rattle.rb_lsp.specs.declared.document.position.Encoding.{Encoding}
use Rattle.rb_editor.specs.declared.actions.layout.ScriptLayout.{ScriptLayout}
use Rattle.rb_editor.specs.Layouts.{IsLayout}
use Rattle.rb_editor.specs.Findings.{diagnostics_of, findings, first_head, of_reading, of_script, refused, slip}

-- a block of those whose heads are told stands there
pub stands_there : (ls : List Line) (bs : List PlainBlock) (heads : List ℕ) (i line : ℕ) (b : PlainBlock) → AreHeadLines 1 ls bs heads → slice_get heads i ≡ Some line → slice_get bs i ≡ Some b → StandsIn ls line b
stands_there ls bs heads i line b are head block =
    let same : i + 1 - 1 ≡ i = omega arith in
    subst (λ (n : ℕ). StandsIn ls n b) (get_or_from_slice_get heads i line 0 head) (all_stand ls bs heads i b are (ap (slice_get bs) same ∙ block))

-- the same by a list of the same lines
pub stands_by : (ls : List Line) (bs : List PlainBlock) (heads ns : List ℕ) (i line : ℕ) (b : PlainBlock) → AreHeadLines 1 ls bs heads → ns ≡ heads → slice_get ns i ≡ Some line → slice_get bs i ≡ Some b → StandsIn ls line b
stands_by ls bs heads ns i line b are same head block = stands_there ls bs heads i line b are (subst (λ (l : List ℕ). slice_get l i ≡ Some line) same head) block

-- ---- lines that look like a slip

pub slips_more : (ws : List Warning) (i : ℕ) (w0 : Warning) (before list new : List PlainDiagnostic) (d : PlainDiagnostic) → i < length ws → list ≡ before ++ map slip (take i ws)
    → new ≡ list ++ d ∷ [] → d ≡ slip (get_or ws i w0) → new ≡ before ++ map slip (take (i + 1) ws)
slips_more ws i w0 before list new d within far next made =
    let w = get_or ws i w0 in
    let more : take (i + 1) ws ≡ take i ws ++ w ∷ [] = take_more ws i w0 within in
    let all : map slip (take (i + 1) ws) ≡ map slip (take i ws) ++ slip w ∷ [] = ap (map slip) more ∙ map-append slip (take i ws) (w ∷ []) in
    next
    ∙ ap₂ (λ (ds : List PlainDiagnostic) (x : PlainDiagnostic). ds ++ x ∷ []) far made
    ∙ append_assoc before (map slip (take i ws)) (slip w ∷ [])
    ∙ ap (λ (ds : List PlainDiagnostic). before ++ ds) (sym all)

pub slips_all : (ws : List Warning) (i : ℕ) (before list : List PlainDiagnostic) → length ws ≤ i → list ≡ before ++ map slip (take i ws) → list ≡ before ++ map slip ws
slips_all ws i before list past far = far ∙ ap (λ (l : List Warning). before ++ map slip l) (take_all i ws past)

-- of a script
pub of_read : (bytes : List ℕ) (s : PlainScript) → Reads bytes s → of_script bytes s ≡ diagnostics_of bytes
unfolding diagnostics_of
of_read bytes s reads = ap (of_reading bytes) (sym (read_complete bytes s reads))

-- of the text of a run
pub of_run : (e : Encoding) (bytes text : List ℕ) (s t : PlainScript) (layout : ScriptLayout) (heads : List ℕ) (ws : List Warning) (list new : List PlainDiagnostic) → IsLayout e bytes s layout
    → bytes ≡ text → t ≡ s → heads ≡ layout.script.heads.items → ws ≡ layout.slips.items
    → list ≡ findings MAX_SCRIPT_CELLS (first_head heads (mismatches t)) layout.script.text heads t.blocks (outputs t) → new ≡ list ++ map slip ws → new ≡ diagnostics_of text
of_run e bytes text s t layout heads ws list new is same script numbers slips found all =
    let named : heads ≡ heads_of bytes s = numbers ∙ is.heads_are in
    let said : list ≡ findings MAX_SCRIPT_CELLS (first_head (heads_of bytes s) (mismatches s)) (lines bytes) (heads_of bytes s) s.blocks (outputs s) =
    found
    ∙ ap (λ (x : PlainScript). findings MAX_SCRIPT_CELLS (first_head heads (mismatches x)) layout.script.text heads x.blocks (outputs x)) script
    ∙ ap (λ (ns : List ℕ). findings MAX_SCRIPT_CELLS (first_head ns (mismatches s)) layout.script.text ns s.blocks (outputs s)) named
    ∙ ap (λ (l : List Line). findings MAX_SCRIPT_CELLS (first_head (heads_of bytes s) (mismatches s)) l (heads_of bytes s) s.blocks (outputs s)) is.lines_are in
    all
    ∙ ap₂ (λ (ds : List PlainDiagnostic) (l : List Warning). ds ++ map slip l) said (slips ∙ is.slips_are)
    ∙ of_read bytes s is.reads
    ∙ ap diagnostics_of same

-- of what is none
pub of_fault : (bytes : List ℕ) (fault : ScriptFault) → read_of bytes ≡ Err fault → refused fault ∷ [] ≡ diagnostics_of bytes
unfolding diagnostics_of
of_fault bytes fault is = ap (of_reading bytes) (sym is)
