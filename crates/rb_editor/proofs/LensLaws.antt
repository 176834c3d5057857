-- The lenses of a text, by its run.
use Rattle.std.proofs.Common.{◌≡◌, ◌∙◌, ℕ, Bool, List, length, ap, sym}
use Rattle.std.specs.Prelude.{◌==◌, ◌&&◌, codes}
use Rattle.rb_script.specs.Script.{PlainScript}
use Rattle.rb_script.specs.Reads.{Reads}
use Rattle.rb_script.proofs.ScriptLaws.{read_complete}
use Rattle.rb_script_report.specs.declared.warning.Warning.{Warning}
use Rattle.rb_lsp.specs.declared.document.position.Encoding.{Encoding}
use Rattle.rb_lsp.specs.declared.server.client.Client.{Client}
use Rattle.rb_editor.specs.declared.actions.layout.ScriptLayout.{ScriptLayout}
use Rattle.rb_editor.specs.Layouts.{IsLayout, IsNoScript}
use Rattle.rb_editor.specs.Lenses.{PlainLens, lens_text, lenses, lenses_by, lenses_in, lenses_of}
use Rattle.rb_editor.specs.Texts.{list_text}

-- the lenses of a text, by the lines of its run that look like a mistake
pub wanted_by : (e : Encoding) (client : Client) (bytes : List ℕ) (s : PlainScript) (layout : ScriptLayout) (ws : List Warning) (accepts : Bool) → IsLayout e bytes s layout → ws ≡ layout.slips.items
    → accepts ≡ (client.runs_accept && (length ws == 0)) → lenses_by accepts client.opens_pages bytes s ≡ lenses_in client bytes s
wanted_by e client bytes s layout ws accepts is are said =
    let may = said ∙ ap (λ (x : List Warning). client.runs_accept && (length x == 0)) (are ∙ is.slips_are) in
    ap (λ (t : Bool). lenses_by t client.opens_pages bytes s) may

-- of a script
of_read : (client : Client) (uri text : List ℕ) (s : PlainScript) → Reads text s → list_text (lens_text client.encoding uri text) (lenses_in client text s) ≡ lenses client uri text
unfolding lenses
of_read client uri text s reads = ap (lenses_of client uri text) (sym (read_complete text s reads))

-- of the text of a run
pub of_run : (known : Encoding) (client : Client) (uri bytes text : List ℕ) (s t : PlainScript) (layout : ScriptLayout) (list : List PlainLens) → IsLayout known bytes s layout → text ≡ bytes → t ≡ s
    → list ≡ lenses_in client text t → list_text (lens_text client.encoding uri text) list ≡ lenses client uri bytes
of_run known client uri bytes text s t layout list is same script made =
    ap (list_text (lens_text client.encoding uri text)) made
    ∙ ap (λ (x : List ℕ). list_text (lens_text client.encoding uri x) (lenses_in client x t)) same
    ∙ ap (λ (x : PlainScript). list_text (lens_text client.encoding uri bytes) (lenses_in client bytes x)) script
    ∙ of_read client uri bytes s is.reads

pub of_text : (client : Client) (uri text bytes : List ℕ) → bytes ≡ text → lenses client uri bytes ≡ lenses client uri text
of_text client uri text bytes same = ap (lenses client uri) same

-- of what is none
pub of_none : (client : Client) (uri text : List ℕ) → IsNoScript text → codes "[]" ≡ lenses client uri text
unfolding lenses
of_none client uri text (fault, is) = ap (lenses_of client uri text) (sym is)
