-- What is shown of a line, directive by directive.
use Rattle.std.proofs.Common.{◌≡◌, ◌∙◌, ℕ, ◌+◌, ◌≤◌, Bool, true, false, List, [], ◌∷◌, ◌++◌, length, drop, refl, ap, ap₂, sym, append_assoc}
use Rattle.std.proofs.lemmas.List.{drop_all}
use Rattle.std.specs.Prelude.{if◌then◌else◌, slice_get, Some, codes}
use Rattle.rb_script.specs.Lines.{Line, lines, text_of}
use Rattle.rb_script.specs.Script.{PlainBlock, PlainScript}
use Rattle.rb_script.specs.Reads.{Reads}
use Rattle.rb_script.proofs.ScriptLaws.{read_complete}
use Rattle.rb_replay.specs.Run.{outputs, state}
use Rattle.rb_machine.specs.Cluster.{Cluster}
use Rattle.rb_machine.specs.Outcome.{outcome}
use Rattle.rb_script.specs.Directive.{PlainDirective}
use Rattle.rb_script.specs.Reading.{directive_of}
use Rattle.rb_view.specs.Looks.{looked, looked_in}
use Rattle.rb_view.proofs.LookLaws.{machine_next}
use Rattle.rb_text.proofs.SentLaws.{drop-get}
use Rattle.rb_lsp.specs.declared.document.position.Encoding.{Encoding}
use Rattle.rb_lsp.specs.declared.document.position.Position.{Position}
use Rattle.rb_editor.specs.Heads.{heads_of}
use Rattle.rb_editor.specs.declared.actions.extent.Extent.{Extent}
use Rattle.rb_editor.specs.Extents.{extent_of, has_line}
use Rattle.rb_editor.specs.Layouts.{IsLayout, IsNoScript, line_at}
use Rattle.rb_editor.specs.declared.actions.layout.ScriptLayout.{ScriptLayout}
use Rattle.rb_editor.specs.Hovers.{explained, explained_line, hover, hover_in, hover_of, hover_text, reasons_at, shown}

-- one directive more
hover-step : (encoding : Encoding) (text : List ℕ) (s : PlainScript) (line n : ℕ) (heads : List ℕ) (bs : List PlainBlock) (os : List (List Line)) (i head : ℕ) (b : PlainBlock) (o : List Line)
    → slice_get heads i ≡ Some head → slice_get bs i ≡ Some b → slice_get os i ≡ Some o
    → hover_in encoding text s line n (drop i heads) (drop i bs) (drop i os)
    ≡ (if has_line line line (extent_of (lines text) head b) then hover_text encoding text (extent_of (lines text) head b) (shown o (reasons_at s n b) (looked s (n + 1)))
    else hover_in encoding text s line (n + 1) (drop (i + 1) heads) (drop (i + 1) bs) (drop (i + 1) os))
hover-step encoding text s line n heads bs os i head b o there block output =
    ap (λ (ns : List ℕ). hover_in encoding text s line n ns (drop i bs) (drop i os)) (drop-get heads i head there)
    ∙ ap (λ (cs : List PlainBlock). hover_in encoding text s line n (head ∷ drop (i + 1) heads) cs (drop i os)) (drop-get bs i b block)
    ∙ ap (λ (outs : List (List Line)). hover_in encoding text s line n (head ∷ drop (i + 1) heads) (b ∷ drop (i + 1) bs) outs) (drop-get os i o output)

-- there are no more
hover-done : (encoding : Encoding) (text : List ℕ) (s : PlainScript) (line n : ℕ) (heads : List ℕ) (bs : List PlainBlock) (os : List (List Line)) → heads ≡ [] → hover_in encoding text s line n heads bs os ≡ codes "null"
hover-done encoding text s line n [] bs os none = refl
hover-done encoding text s line n (head ∷ heads) bs os none = absurd cc

-- what is shown at the directive behind i others, and behind it, where it is looked at whether it has the line
looked_at : (encoding : Encoding) (text : List ℕ) (s : PlainScript) (line i head : ℕ) (b : PlainBlock) (o ls : List Line) (e : Extent) (t u : Bool) (total : List ℕ)
    → slice_get (heads_of text s) i ≡ Some head → slice_get s.blocks i ≡ Some b → slice_get (outputs s) i ≡ Some o → ls ≡ lines text → e ≡ extent_of ls head b → t ≡ has_line line line e → t ≡ u
    → hover_in encoding text s line i (drop i (heads_of text s)) (drop i s.blocks) (drop i (outputs s)) ≡ total
    → (if u then hover_text encoding text e (shown o (reasons_at s i b) (looked s (i + 1))) else hover_in encoding text s line (i + 1) (drop (i + 1) (heads_of text s)) (drop (i + 1) s.blocks) (drop (i + 1) (outputs s))) ≡ total
looked_at encoding text s line i head b o ls e t u total there block output lines_are extent test is far =
    let rest = hover_in encoding text s line (i + 1) (drop (i + 1) (heads_of text s)) (drop (i + 1) s.blocks) (drop (i + 1) (outputs s)) in
    let same : e ≡ extent_of (lines text) head b = extent ∙ ap (λ (xs : List Line). extent_of xs head b) lines_are in
    ap (λ (x : Bool). if x then hover_text encoding text e (shown o (reasons_at s i b) (looked s (i + 1))) else rest) (sym is ∙ test)
    ∙ ap (λ (x : Extent). if has_line line line x then hover_text encoding text x (shown o (reasons_at s i b) (looked s (i + 1))) else rest) same
    ∙ sym (hover-step encoding text s line i (heads_of text s) s.blocks (outputs s) i head b o there block output)
    ∙ far

-- it hasn't
pub hover_next : (encoding : Encoding) (text : List ℕ) (s : PlainScript) (line i head : ℕ) (b : PlainBlock) (o ls : List Line) (e : Extent) (t : Bool) (total : List ℕ)
    → slice_get (heads_of text s) i ≡ Some head → slice_get s.blocks i ≡ Some b → slice_get (outputs s) i ≡ Some o → ls ≡ lines text → e ≡ extent_of ls head b → t ≡ has_line line line e → t ≡ false
    → hover_in encoding text s line i (drop i (heads_of text s)) (drop i s.blocks) (drop i (outputs s)) ≡ total
    → hover_in encoding text s line (i + 1) (drop (i + 1) (heads_of text s)) (drop (i + 1) s.blocks) (drop (i + 1) (outputs s)) ≡ total
hover_next encoding text s line i head b o ls e t total there block output lines_are extent test is far =
    looked_at encoding text s line i head b o ls e t false total there block output lines_are extent test is far

-- it has the line, and its text went out
pub hover_went : (encoding : Encoding) (text : List ℕ) (s : PlainScript) (line i head : ℕ) (b : PlainBlock) (o ls : List Line) (e : Extent) (t : Bool) (seen before out new total : List ℕ)
    → slice_get (heads_of text s) i ≡ Some head → slice_get s.blocks i ≡ Some b → slice_get (outputs s) i ≡ Some o → ls ≡ lines text → e ≡ extent_of ls head b → t ≡ has_line line line e → t ≡ true
    → hover_in encoding text s line i (drop i (heads_of text s)) (drop i s.blocks) (drop i (outputs s)) ≡ total → new ≡ before ++ hover_text encoding text e seen → before ≡ out → seen ≡ shown o (reasons_at s i b) (looked s (i + 1))
    → new ≡ out ++ total
hover_went encoding text s line i head b o ls e t seen before out new total there block output lines_are extent test is far went unmoved shows =
    went
    ∙ ap (λ (l : List ℕ). l ++ hover_text encoding text e seen) unmoved
    ∙ ap (λ (l : List ℕ). out ++ hover_text encoding text e l) shows
    ∙ ap (λ (l : List ℕ). out ++ l) (looked_at encoding text s line i head b o ls e t true total there block output lines_are extent test is far)

-- none has it
pub hover_none : (encoding : Encoding) (text : List ℕ) (s : PlainScript) (line i : ℕ) (heads : List ℕ) (bs : List PlainBlock) (os : List (List Line)) (before out new total : List ℕ) → length heads ≤ i
    → hover_in encoding text s line i (drop i heads) (drop i bs) (drop i os) ≡ total → new ≡ before ++ codes "null" → before ≡ out → new ≡ out ++ total
hover_none encoding text s line i heads bs os before out new total past far went unmoved =
    went
    ∙ ap (λ (l : List ℕ). l ++ codes "null") unmoved
    ∙ ap (λ (l : List ℕ). out ++ l) (sym (hover-done encoding text s line i (drop i heads) (drop i bs) (drop i os) (drop_all i heads past)) ∙ far)

-- ---- of a text

-- of a script
of_read : (encoding : Encoding) (position : Position) (text : List ℕ) (s : PlainScript) → Reads text s
    → hover_in encoding text s (line_at encoding position text) 0 (heads_of text s) s.blocks (outputs s) ≡ hover encoding position text
unfolding hover
of_read encoding position text s reads = ap (hover_of encoding position text) (sym (read_complete text s reads))

-- of the text of a run
pub of_run : (known encoding : Encoding) (position : Position) (bytes text : List ℕ) (s t : PlainScript) (layout : ScriptLayout) → IsLayout known bytes s layout → text ≡ bytes → t ≡ s
    → hover_in encoding text t (line_at encoding position text) 0 (heads_of text t) t.blocks (outputs t) ≡ hover encoding position bytes
of_run known encoding position bytes text s t layout is same script =
    ap (λ (x : List ℕ). hover_in encoding x t (line_at encoding position x) 0 (heads_of x t) t.blocks (outputs t)) same
    ∙ ap (λ (x : PlainScript). hover_in encoding bytes x (line_at encoding position bytes) 0 (heads_of bytes x) x.blocks (outputs x)) script
    ∙ of_read encoding position bytes s is.reads

pub of_text : (encoding : Encoding) (position : Position) (text bytes : List ℕ) → bytes ≡ text → hover encoding position bytes ≡ hover encoding position text
of_text encoding position text bytes same = ap (hover encoding position) same

-- of what is none
pub of_none : (encoding : Encoding) (position : Position) (text : List ℕ) → IsNoScript text → codes "null" ≡ hover encoding position text
unfolding hover
of_none encoding position text (fault, is) = ap (hover_of encoding position text) (sym is)

-- ---- an output with its reasons

pub explained_more : (reasons output : List Line) (i : ℕ) (line : Line) → slice_get output i ≡ Some line → explained reasons i (drop i output) ≡ explained_line reasons i line ++ explained reasons (i + 1) (drop (i + 1) output)
explained_more reasons output i line is = ap (explained reasons i) (drop-get output i line is)

pub explained_all : (reasons output : List Line) (i : ℕ) → length output ≤ i → explained reasons i (drop i output) ≡ []
explained_all reasons output i past = ap (explained reasons i) (drop_all i output past)

-- ---- the cluster after a directive

pub runs_next : (s : PlainScript) (i : ℕ) (b : PlainBlock) (d : PlainDirective) (before after : Cluster) → slice_get s.blocks i ≡ Some b → before ≡ state s i → d ≡ directive_of b → after ≡ (outcome before d).cluster
    → after ≡ state s (i + 1)
runs_next s i b d before after there here is next = machine_next s i b before after there here (next ∙ ap (λ (x : PlainDirective). (outcome before x).cluster) is)

pub seen_after : (s : PlainScript) (i : ℕ) (b : PlainBlock) (d : PlainDirective) (before after : Cluster) (seen : List Line) → slice_get s.blocks i ≡ Some b → before ≡ state s i → d ≡ directive_of b
    → after ≡ (outcome before d).cluster → seen ≡ looked_in after → seen ≡ looked s (i + 1)
unfolding looked
seen_after s i b d before after seen there here is next shows = shows ∙ ap looked_in (runs_next s i b d before after there here is next)

-- ---- the text that is shown

pub text_shown : (output reasons reasons' seen seen' : List Line) (t0 t1 t2 t : List ℕ) → t0 ≡ explained reasons 0 output → t1 ≡ t0 ++ 10 ∷ [] → t2 ≡ t1 ++ t → t ≡ text_of seen → reasons ≡ reasons' → seen ≡ seen'
    → t2 ≡ shown output reasons' seen'
text_shown output reasons reasons' seen seen' t0 t1 t2 t first second third is why looks =
    third ∙ ap₂ (λ (a b : List ℕ). a ++ b) second is ∙ append_assoc t0 (10 ∷ []) (text_of seen) ∙ ap (λ (a : List ℕ). a ++ (10 ∷ text_of seen)) first
    ∙ ap₂ (λ (rs ls : List Line). explained rs 0 output ++ (10 ∷ text_of ls)) why looks
