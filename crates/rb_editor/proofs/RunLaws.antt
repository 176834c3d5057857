-- The layout of a text that was read, by other names of the text and of its script.
use Rattle.std.proofs.Common.{◌≡◌, ◌∙◌, ℕ, Bool, true, List, refl, ap, sym, subst}
use Rattle.std.specs.Str.{bytes_eq}
use Rattle.std.proofs.lemmas.Slice.Eq.{bytes_eq-Decides}
use Rattle.rb_script.specs.Lines.{Line, lines}
use Rattle.rb_script.specs.Script.{PlainScript}
use Rattle.rb_script.specs.Reads.{Reads}
use Rattle.rb_script.specs.HeadLines.{AreHeadLines}
use Rattle.rb_replay.specs.Run.{outputs}
use Rattle.rb_script_report.specs.Doubts.{all_warnings}
use Rattle.rb_lsp.specs.declared.document.position.Encoding.{Encoding}
use Rattle.rb_lsp.specs.Tables.{IsTable}
use Rattle.rb_editor.proofs.HeadLaws.{heads_are}
use Rattle.rb_editor.specs.declared.actions.layout.ScriptLayout.{ScriptLayout}
use Rattle.rb_editor.specs.Layouts.{IsLayout}

-- the text of a run, by a comparison
pub same_text : (known bytes text : List ℕ) (t : Bool) → known ≡ bytes → t ≡ bytes_eq known text → t ≡ true → bytes ≡ text
same_text known bytes text t is compared held = sym is ∙ (bytes_eq-Decides known text).0 (sym compared ∙ held)

-- of bytes that were read so
read_layout : (encoding : Encoding) (bytes : List ℕ) (s : PlainScript) (layout : ScriptLayout) → Reads bytes s → layout.script.text ≡ lines bytes
    → AreHeadLines 1 (lines bytes) s.blocks layout.script.heads.items → IsTable encoding bytes layout.table → layout.slips.items ≡ all_warnings (lines bytes) layout.script.heads.items s.blocks (outputs s)
    → IsLayout encoding bytes s layout
read_layout encoding bytes s layout reads same heads table slips =
    let there = subst (λ (ls : List Line). AreHeadLines 1 ls s.blocks layout.script.heads.items) (sym same) heads in
    let named = heads_are bytes s layout.script.heads.items reads heads in
    record {
      reads = reads;
      lines_are = same;
      heads = there;
      heads_are = named;
      count = heads.count;
      table = table;
      slips_are = slips ∙ ap (λ (ns : List ℕ). all_warnings (lines bytes) ns s.blocks (outputs s)) named;
    }

pub layout_by : (e f : Encoding) (bytes text : List ℕ) (s t : PlainScript) (layout : ScriptLayout) → IsLayout e bytes s layout → e ≡ f → text ≡ bytes → t ≡ s → IsLayout f text t layout
layout_by e f bytes text s t layout is same bytes_are script =
    subst (λ (x : Encoding). IsLayout x text t layout) same (subst (λ (x : List ℕ). IsLayout e x t layout) (sym bytes_are) (subst (λ (x : PlainScript). IsLayout e bytes x layout) (sym script) is))

-- the table of its lines
pub table_by : (e f : Encoding) (bytes text : List ℕ) (s : PlainScript) (layout : ScriptLayout) → IsLayout e bytes s layout → e ≡ f → text ≡ bytes → IsTable f text layout.table
table_by e f bytes text s layout is same bytes_are = (layout_by e f bytes text s s layout is same bytes_are refl).table

-- and where the session is on the script, and the text is a copy of the bytes
pub layout_is : (encoding : Encoding) (bytes text : List ℕ) (s t : PlainScript) (layout : ScriptLayout) → Reads bytes s → layout.script.text ≡ lines bytes
    → AreHeadLines 1 (lines bytes) s.blocks layout.script.heads.items → IsTable encoding bytes layout.table
    → layout.slips.items ≡ all_warnings layout.script.text layout.script.heads.items t.blocks (outputs t) → text ≡ bytes → t ≡ s → IsLayout encoding text t layout
layout_is encoding bytes text s t layout reads same heads table slips bytes_are script =
    let found = slips ∙ ap (λ (ls : List Line). all_warnings ls layout.script.heads.items t.blocks (outputs t)) same ∙ ap (λ (x : PlainScript). all_warnings (lines bytes) layout.script.heads.items x.blocks (outputs x)) script in
    subst (λ (x : List ℕ). IsLayout encoding x t layout) (sym bytes_are)
    (subst (λ (x : PlainScript). IsLayout encoding bytes x layout) (sym script) (read_layout encoding bytes s layout reads same heads table found))

-- the lines of its heads
pub heads_by : (e : Encoding) (bytes : List ℕ) (s t : PlainScript) (layout : ScriptLayout) (heads : List ℕ) → IsLayout e bytes s layout → t ≡ s → heads ≡ layout.script.heads.items → AreHeadLines 1 layout.script.text t.blocks heads
heads_by e bytes s t layout heads is script numbers =
    subst (λ (x : PlainScript). AreHeadLines 1 layout.script.text x.blocks heads) (sym script) (subst (λ (l : List ℕ). AreHeadLines 1 layout.script.text s.blocks l) (sym numbers) is.heads)
