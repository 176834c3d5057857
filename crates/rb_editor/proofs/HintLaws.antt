-- The inlay hints of a text, by its run.
use Rattle.std.proofs.Common.{◌≡◌, ◌∙◌, ℕ, ◌+◌, ◌<◌, ◌≤◌, List, [], ◌∷◌, ◌++◌, length, drop, get_or, Some, refl, ap, sym, append_assoc}
use Rattle.std.specs.Prelude.{codes, slice_get}
use Rattle.std.proofs.lemmas.List.{drop_all, drop_more}
use Rattle.rb_script.specs.Lines.{Line}
use Rattle.rb_script.specs.Script.{PlainBlock, PlainScript}
use Rattle.rb_script.specs.Reads.{Reads}
use Rattle.rb_script.proofs.ScriptLaws.{read_complete}
use Rattle.rb_text.proofs.SentLaws.{drop-get}
use Rattle.rb_node.specs.Node.{PlainNode}
use Rattle.rb_replay.specs.Run.{state}
use Rattle.rb_script_report.proofs.EachLaws.{done, more}
use Rattle.rb_lsp.specs.declared.document.position.Encoding.{Encoding}
use Rattle.rb_lsp.specs.declared.document.position.Range.{Range}
use Rattle.rb_editor.specs.declared.actions.extent.LineSpan.{LineSpan}
use Rattle.rb_editor.specs.declared.actions.inlay_hint.InlayHint.{InlayHint}
use Rattle.rb_editor.specs.declared.actions.layout.ScriptLayout.{ScriptLayout}
use Rattle.rb_editor.specs.declared.actions.leadership.Leadership.{Leadership}
use Rattle.rb_editor.specs.Actions.{span_of}
use Rattle.rb_editor.specs.BlockLines.{block_lines}
use Rattle.rb_editor.specs.Hints.{all_hints, hint_at, hint_text, hints_from, hints_in, hints_of, leadership, line_within, with_node, with_nodes}
use Rattle.rb_editor.specs.Layouts.{IsLayout, IsNoScript}
use Rattle.rb_editor.specs.Texts.{list_text}

-- ---- who leads

pub with_more : (known : Leadership) (ns : List PlainNode) (i : ℕ) (n : PlainNode) → i < length ns → n ≡ get_or ns i n → with_nodes known (drop i ns) ≡ with_nodes (with_node known n) (drop (i + 1) ns)
with_more known ns i n within is = ap (with_nodes known) (drop_more ns i n within) ∙ ap (λ (x : PlainNode). with_nodes (with_node known x) (drop (i + 1) ns)) (sym is)

pub with_all : (known : Leadership) (ns : List PlainNode) (i : ℕ) → length ns ≤ i → with_nodes known (drop i ns) ≡ known
with_all known ns i past = ap (with_nodes known) (drop_all i ns past)

-- ---- directives one after another

hint_step : (ls : List Line) (s : PlainScript) (span : LineSpan) (heads : List ℕ) (bs : List PlainBlock) (i head : ℕ) (b : PlainBlock) → slice_get heads i ≡ Some head → slice_get bs i ≡ Some b
    → hints_from ls s span i (drop i heads) (drop i bs) ≡ hint_at ls (line_within span (block_lines ls head b)) (leadership (state s (i + 1)).nodes) ++ hints_from ls s span (i + 1) (drop (i + 1) heads) (drop (i + 1) bs)
hint_step ls s span heads bs i head b there block =
    ap (λ (ns : List ℕ). hints_from ls s span i ns (drop i bs)) (drop-get heads i head there)
    ∙ ap (λ (cs : List PlainBlock). hints_from ls s span i (head ∷ drop (i + 1) heads) cs) (drop-get bs i b block)

-- one directive more
pub hint_more : (ls : List Line) (s : PlainScript) (span : LineSpan) (heads : List ℕ) (bs : List PlainBlock) (i head : ℕ) (b : PlainBlock) (had has all : List InlayHint) → slice_get heads i ≡ Some head → slice_get bs i ≡ Some b
    → has ≡ had ++ hint_at ls (line_within span (block_lines ls head b)) (leadership (state s (i + 1)).nodes)
    → had ++ hints_from ls s span i (drop i heads) (drop i bs) ≡ all → has ++ hints_from ls s span (i + 1) (drop (i + 1) heads) (drop (i + 1) bs) ≡ all
hint_more ls s span heads bs i head b had has all there block is far =
    more had (hint_at ls (line_within span (block_lines ls head b)) (leadership (state s (i + 1)).nodes)) (hints_from ls s span (i + 1) (drop (i + 1) heads) (drop (i + 1) bs)) (hints_from ls s span i (drop i heads) (drop i bs)) has all is
    (hint_step ls s span heads bs i head b there block) far

none_left : (ls : List Line) (s : PlainScript) (span : LineSpan) (n : ℕ) (heads : List ℕ) (bs : List PlainBlock) → bs ≡ [] → hints_from ls s span n heads bs ≡ []
none_left ls s span n [] bs none = refl
none_left ls s span n (head ∷ heads) [] none = refl
none_left ls s span n (head ∷ heads) (b ∷ bs) none = absurd cc

pub hint_all : (ls : List Line) (s : PlainScript) (span : LineSpan) (heads : List ℕ) (bs : List PlainBlock) (i : ℕ) (has all : List InlayHint) → length bs ≤ i
    → has ++ hints_from ls s span i (drop i heads) (drop i bs) ≡ all → has ≡ all
hint_all ls s span heads bs i has all past far = done has (hints_from ls s span i (drop i heads) (drop i bs)) all (none_left ls s span i (drop i heads) (drop i bs) (drop_all i bs past)) far

-- ---- as they are sent

-- what is written in five parts
pub five_written : (out a b c d e t1 t2 t3 t4 t5 : List ℕ) → t1 ≡ out ++ a → t2 ≡ t1 ++ b → t3 ≡ t2 ++ c → t4 ≡ t3 ++ d → t5 ≡ t4 ++ e → t5 ≡ out ++ (a ++ (b ++ (c ++ (d ++ e))))
five_written out a b c d e t1 t2 t3 t4 t5 first second third fourth fifth =
    fifth
    ∙ ap (λ (t : List ℕ). t ++ e) (fourth ∙ ap (λ (t : List ℕ). t ++ d) (third ∙ ap (λ (t : List ℕ). t ++ c) (second ∙ ap (λ (t : List ℕ). t ++ b) first)))
    ∙ append_assoc (((out ++ a) ++ b) ++ c) d e
    ∙ append_assoc ((out ++ a) ++ b) c (d ++ e)
    ∙ append_assoc (out ++ a) b (c ++ (d ++ e))
    ∙ append_assoc out a (b ++ (c ++ (d ++ e)))

-- ---- of a text

-- of a script
of_read : (encoding : Encoding) (range : Range) (text : List ℕ) (s : PlainScript) → Reads text s → list_text (hint_text encoding text) (hints_in text s (span_of encoding range text)) ≡ all_hints encoding range text
unfolding all_hints
of_read encoding range text s reads = ap (hints_of encoding range text) (sym (read_complete text s reads))

-- of the text of a run
pub of_run : (known encoding : Encoding) (range : Range) (bytes text : List ℕ) (s t : PlainScript) (layout : ScriptLayout) (list : List InlayHint) → IsLayout known bytes s layout → text ≡ bytes → t ≡ s
    → list ≡ hints_in text t (span_of encoding range text) → list_text (hint_text encoding text) list ≡ all_hints encoding range bytes
of_run known encoding range bytes text s t layout list is same script made =
    ap (list_text (hint_text encoding text)) made
    ∙ ap (λ (x : List ℕ). list_text (hint_text encoding x) (hints_in x t (span_of encoding range x))) same
    ∙ ap (λ (x : PlainScript). list_text (hint_text encoding bytes) (hints_in bytes x (span_of encoding range bytes))) script
    ∙ of_read encoding range bytes s is.reads

pub of_text : (encoding : Encoding) (range : Range) (text bytes : List ℕ) → bytes ≡ text → all_hints encoding range bytes ≡ all_hints encoding range text
of_text encoding range text bytes same = ap (all_hints encoding range) same

-- of what is none
pub of_none : (encoding : Encoding) (range : Range) (text : List ℕ) → IsNoScript text → codes "[]" ≡ all_hints encoding range text
unfolding all_hints
of_none encoding range text (fault, is) = ap (hints_of encoding range text) (sym is)
