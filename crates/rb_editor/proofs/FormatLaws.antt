-- What is sent for formatting makes the canonical text, without the empty line at its end.
use Rattle.std.proofs.Common.{◌≡◌, ℕ, Bool, true, List, Ok, Err, ap, refl, subst, sym}
use Rattle.std.specs.Prelude.{Result, if◌then◌else◌}
use Rattle.std.proofs.lemmas.Bool.{and_parts}
use Rattle.std.proofs.lemmas.Slice.Eq.{bytes_eq-Decides}
use Rattle.rb_script.specs.declared.fault.ScriptFault.{ScriptFault}
use Rattle.rb_script.specs.Script.{PlainScript, text as canonical_text}
use Rattle.rb_script.specs.Reads.{Reads}
use Rattle.rb_script.specs.Reading.{read_of}
use Rattle.rb_script.proofs.ScriptLaws.{reads_once, read_sound}
use Rattle.rb_script.proofs.TextLaws.{text_reads}
use Rattle.rb_script.proofs.ValidLaws.{read_valid}
use Rattle.rb_lsp.specs.declared.document.position.Encoding.{Encoding}
use Rattle.rb_lsp.proofs.DifferLaws.{edits_make}
use Rattle.rb_lsp.proofs.PlaceLaws.{test_cases}
use Rattle.rb_editor.specs.BlockLines.{found, script_of}
use Rattle.rb_editor.specs.Formatting.{can_be_cut, cut, edits, ends_empty, formatted, formatting, has_canonical, of_script}
use Rattle.rb_editor.specs.OfferLaws.{Formats}
use Rattle.rb_editor.proofs.BlockLaws.{script_found}

sent : (encoding : Encoding) (text : List ℕ) (s : PlainScript) → Reads text s → formatting encoding text ≡ edits encoding text (formatted (canonical_text s))
unfolding formatting
sent encoding text s reads = ap (of_script encoding text) (script_found text s reads)

-- a text with the canonical text of a script is that script
pub same_canonical : (text : List ℕ) (s : PlainScript) (read : Result PlainScript ScriptFault) → Reads (canonical_text s) s → read_of text ≡ read → has_canonical (canonical_text s) (found read) ≡ true → Reads text s
same_canonical text s (Err fault) back is has = absurd cc
same_canonical text s (Ok t) back is has =
    let reads : Reads text t = read_sound text t is in
    let same : canonical_text t ≡ canonical_text s = (bytes_eq-Decides (canonical_text t) (canonical_text s)).0 has in
    let again : Reads (canonical_text s) t = subst (λ (c : List ℕ). Reads c t) same (text_reads t (read_valid text t reads)) in
    subst (λ (x : PlainScript). Reads text x) (reads_once (canonical_text s) t s again back) reads

reads_formatted : (s : PlainScript) → Reads (canonical_text s) s → Reads (formatted (canonical_text s)) s
unfolding formatted script_of
reads_formatted s back =
    let canonical = canonical_text s in
    test_cases (can_be_cut canonical)
    (λ can. subst (λ (t : Bool). Reads (if t then cut canonical else canonical) s) (sym can) (same_canonical (cut canonical) s (read_of (cut canonical)) back refl (and_parts (ends_empty canonical) (has_canonical canonical (script_of (cut canonical))) can).1))
    (λ not. subst (λ (t : Bool). Reads (if t then cut canonical else canonical) s) (sym not) back)

pub formats : (encoding : Encoding) (text : List ℕ) (s : PlainScript) → Reads text s → Formats encoding text s
formats encoding text s reads = record {
  sent = sent encoding text s reads;
  made = edits_make encoding text (formatted (canonical_text s));
  reads_back = reads_formatted s (text_reads s (read_valid text s reads));
}
