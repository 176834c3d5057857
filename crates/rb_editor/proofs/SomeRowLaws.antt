-- The rows of some directives, by the run of a text.
use Rattle.std.proofs.Common.{◌≡◌, ◌∙◌, ℕ, ◌+◌, ◌-◌, Bool, true, false, List, length, codes, Option, Some, None, Result, Ok, Err, refl, ap, ap₂, sym, arith}
use Rattle.std.specs.Prelude.{OnOk, if◌then◌else◌}
use Rattle.std.specs.Result.{is_ok}
use Rattle.rb_script.specs.Lines.{Line}
use Rattle.rb_script.specs.Script.{PlainScript}
use Rattle.rb_script.specs.Reads.{Reads}
use Rattle.rb_script.proofs.ScriptLaws.{read_complete}
use Rattle.rb_script_report.specs.declared.warning.Warning.{Warning}
use Rattle.rb_view.specs.PageRoom.{has_room, held}
use Rattle.rb_view.specs.Pages.{rows_joined}
use Rattle.rb_view.specs.SomeSteps.{some_texts}
use Rattle.rb_lsp.specs.declared.document.position.Encoding.{Encoding}
use Rattle.rb_lsp.specs.declared.server.item_span.ItemSpan.{ItemSpan}
use Rattle.rb_editor.specs.declared.actions.layout.ScriptLayout.{ScriptLayout}
use Rattle.rb_editor.specs.Layouts.{IsLayout, IsNoScript}
use Rattle.rb_editor.specs.SomeRows.{count_of, first_of, rows, rows_by, rows_in, rows_text}

-- ---- what is held

by_room : (room : Bool) (uri : List ℕ) (texts made : List Line) → Some made ≡ (if room then Some texts else None) → rows_joined uri made ≡ (if room then rows_joined uri texts else codes "null")
by_room true uri texts made is = ap (rows_joined uri) (one made texts is)
  where
    one : (a b : List Line) → Some a ≡ Some b → a ≡ b
    one a b e = ap (λ (o : Option (List Line)). some_or o) e
      where
        some_or : Option (List Line) → List Line
        some_or None = a
        some_or (Some x) = x
by_room false uri texts made is = absurd cc

none_by : (room : Bool) (uri : List ℕ) (texts : List Line) → None ≡ (if room then Some texts else None) → codes "null" ≡ (if room then rows_joined uri texts else codes "null")
none_by true uri texts is = absurd cc
none_by false uri texts is = refl

-- ---- of a script that ran

-- what the run is asked for, by its text and its script
texts_by : (known : Encoding) (span : ItemSpan) (bytes : List ℕ) (s t : PlainScript) (layout : ScriptLayout) (heads : List ℕ) (warnings : List Warning) (n from to : ℕ) → IsLayout known bytes s layout → t ≡ s
    → heads ≡ layout.script.heads.items → warnings ≡ layout.slips.items → n ≡ length t.blocks → from ≡ first_of span n → to ≡ first_of span n + count_of span n
    → some_texts heads warnings from (to - from) t ≡ rows_in span bytes s
texts_by known span bytes s t layout heads warnings n from to is same heads_are warnings_are all first last =
    let count : to - from ≡ count_of span n = omega (arith, first, last) in
    let n_is : n ≡ length s.blocks = all ∙ ap (λ (x : PlainScript). length x.blocks) same in
    ap₂ (λ (f c : ℕ). some_texts heads warnings f c t) (first ∙ ap (first_of span) n_is) (count ∙ ap (count_of span) n_is)
    ∙ ap₂ (λ (hs : List ℕ) (ws : List Warning). some_texts hs ws (first_of span (length s.blocks)) (count_of span (length s.blocks)) t) (heads_are ∙ is.heads_are) (warnings_are ∙ is.slips_are)
    ∙ ap (some_texts _ _ (first_of span (length s.blocks)) (count_of span (length s.blocks))) same

of_read : (span : ItemSpan) (uri text : List ℕ) (s : PlainScript) → Reads text s → rows_text uri (rows_in span text s) ≡ rows span uri text
unfolding rows
of_read span uri text s reads = ap (rows_by span uri text) (sym (read_complete text s reads))

-- they are there
pub of_rows : (known : Encoding) (span : ItemSpan) (uri bytes : List ℕ) (s t : PlainScript) (layout : ScriptLayout) (heads : List ℕ) (warnings : List Warning) (n from to : ℕ) (made : List Line) → IsLayout known bytes s layout → t ≡ s
    → heads ≡ layout.script.heads.items → warnings ≡ layout.slips.items → n ≡ length t.blocks → from ≡ first_of span n → to ≡ first_of span n + count_of span n
    → Some made ≡ held (some_texts heads warnings from (to - from) t) → rows_joined uri made ≡ rows span uri bytes
of_rows known span uri bytes s t layout heads warnings n from to made is same heads_are warnings_are all first last there =
    let texts = some_texts heads warnings from (to - from) t in
    by_room (has_room texts) uri texts made there
    ∙ ap (rows_text uri) (texts_by known span bytes s t layout heads warnings n from to is same heads_are warnings_are all first last)
    ∙ of_read span uri bytes s is.reads

-- a page has no room for them
pub of_full : (known : Encoding) (span : ItemSpan) (uri bytes : List ℕ) (s t : PlainScript) (layout : ScriptLayout) (heads : List ℕ) (warnings : List Warning) (n from to : ℕ) → IsLayout known bytes s layout → t ≡ s
    → heads ≡ layout.script.heads.items → warnings ≡ layout.slips.items → n ≡ length t.blocks → from ≡ first_of span n → to ≡ first_of span n + count_of span n
    → None ≡ held (some_texts heads warnings from (to - from) t) → codes "null" ≡ rows span uri bytes
of_full known span uri bytes s t layout heads warnings n from to is same heads_are warnings_are all first last there =
    let texts = some_texts heads warnings from (to - from) t in
    none_by (has_room texts) uri texts there
    ∙ ap (rows_text uri) (texts_by known span bytes s t layout heads warnings n from to is same heads_are warnings_are all first last)
    ∙ of_read span uri bytes s is.reads

-- ---- of a text

pub of_text : (span : ItemSpan) (uri text bytes : List ℕ) → bytes ≡ text → rows span uri bytes ≡ rows span uri text
of_text span uri text bytes same = ap (rows span uri) same

-- of what is none
pub of_none : (span : ItemSpan) (uri text : List ℕ) → IsNoScript text → codes "null" ≡ rows span uri text
unfolding rows
of_none span uri text (fault, is) = ap (rows_by span uri text) (sym is)

-- what is added where memory is there
pub added : {X E M : Type 0} (r : Result X E) (m a b c : M) → m ≡ (if is_ok r then a else b) → a ≡ c → OnOk r (m ≡ c)
added (Ok x) m a b c is same = is ∙ same
added (Err e) m a b c is same = tt
