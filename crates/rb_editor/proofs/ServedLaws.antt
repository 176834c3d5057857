-- The text that is served of a script is all of it, and that of another text is above its first fault.
use Rattle.std.proofs.Common.{◌≡◌, ◌∙◌, ℕ, true, List, ◌++◌, Option, None, Some, Result, Ok, Err, refl, ap, ap₂, sym, subst, append-nil}
use Rattle.rb_script.specs.declared.fault.ScriptFault.{ScriptFault}
use Rattle.rb_script.specs.Script.{PlainScript}
use Rattle.rb_script.specs.Reads.{Reads}
use Rattle.rb_script.specs.Reading.{read_of}
use Rattle.rb_script.proofs.ScriptLaws.{read_complete}
use Rattle.rb_lsp.specs.declared.server.stop.Stop.{Stop}
use Rattle.rb_lsp.specs.declared.server.query.Query.{Query}
use Rattle.rb_lsp.specs.declared.server.query.Query.TheVariants.{CodeAction, CodeLens, Completion, Definition, DocumentHighlight, DocumentSymbol, FoldingRange, Formatting, Hover, InlayHint, RangeFormatting, References, Rows, SelectionRange}
use Rattle.rb_editor.specs.Diagnostics.{PlainDiagnostic}
use Rattle.rb_editor.specs.Findings.{diagnosed}
use Rattle.rb_editor.specs.Served.{above_fault, fault_in, fault_of, marks, served, shown, text_for}
use Rattle.rb_editor.specs.Stops.{has_head, may_stop, needs_run}

pub fault_none : (text : List ℕ) (s : PlainScript) → Reads text s → None ≡ fault_of text
unfolding fault_of
fault_none text s reads = ap fault_in (sym (read_complete text s reads))

pub fault_some : (text : List ℕ) (fault : ScriptFault) → read_of text ≡ Err fault → Some fault ≡ fault_of text
unfolding fault_of
fault_some text fault is = ap fault_in (sym is)

-- of a text with this fault, or none
pub of_fault : (text front : List ℕ) (fault : Option ScriptFault) → fault ≡ fault_of text → front ≡ above_fault text fault → front ≡ served text
unfolding served
of_fault text front fault is above = above ∙ ap (above_fault text) is

-- of a script
pub of_script : (text : List ℕ) (s : PlainScript) → Reads text s → text ≡ served text
unfolding served
of_script text s reads = ap (above_fault text) (fault_none text s reads)

-- ---- what is shown

pub shown_by : (text front : List ℕ) (fault : Option ScriptFault) (stop : Option Stop) (list all : List PlainDiagnostic) → fault ≡ fault_of text → front ≡ above_fault text fault
    → list ≡ diagnosed stop front → all ≡ list ++ marks fault → all ≡ shown stop text
shown_by text front fault stop list all is above found more =
    more ∙ ap₂ (λ (ds : List PlainDiagnostic) (f : Option ScriptFault). ds ++ marks f) (found ∙ ap (diagnosed stop) (of_fault text front fault is above)) is

pub may_stop_by : (text front : List ℕ) (fault : Option ScriptFault) (stop : Stop) → fault ≡ fault_of text → front ≡ above_fault text fault → may_stop front stop ≡ true → may_stop (served text) stop ≡ true
may_stop_by text front fault stop is above may = subst (λ (x : List ℕ). may_stop x stop ≡ true) (of_fault text front fault is above) may

-- a text whose run may stop is a script, so all of it is served
all_by : (text : List ℕ) (line : ℕ) (read : Result PlainScript ScriptFault) → read ≡ read_of text → has_head text read line ≡ true → text ≡ served text
unfolding served fault_of
all_by text line (Ok s) is may = ap (λ (r : Result PlainScript ScriptFault). above_fault text (fault_in r)) is
all_by text line (Err fault) is may = absurd cc

-- the text by which a request is answered that needs a run
needed_text : (asked : Query) (text : List ℕ) (stop : Stop) → needs_run asked ≡ true → may_stop (text_for asked text) stop ≡ true → text_for asked text ≡ served text
needed_text (CodeAction range) text stop is may = refl
needed_text (Hover position) text stop is may = refl
needed_text CodeLens text stop is may = refl
needed_text (InlayHint range) text stop is may = refl
needed_text (Rows span) text stop is may = all_by text stop.line (read_of text) refl may
needed_text Formatting text stop is may = absurd cc
needed_text (Completion position) text stop is may = absurd cc
needed_text FoldingRange text stop is may = absurd cc
needed_text DocumentSymbol text stop is may = absurd cc
needed_text (RangeFormatting range) text stop is may = absurd cc
needed_text (Definition position) text stop is may = absurd cc
needed_text (References position includes) text stop is may = absurd cc
needed_text (DocumentHighlight position) text stop is may = absurd cc
needed_text (SelectionRange position) text stop is may = absurd cc

pub stop_above : (asked : Query) (text front : List ℕ) (stop : Stop) → needs_run asked ≡ true → front ≡ text_for asked text → may_stop front stop ≡ true → may_stop (served text) stop ≡ true
stop_above asked text front stop is above may =
    let there : may_stop (text_for asked text) stop ≡ true = subst (λ (x : List ℕ). may_stop x stop ≡ true) above may in
    subst (λ (x : List ℕ). may_stop x stop ≡ true) (needed_text asked text stop is there) there

-- a script is shown as its run
pub shown_script : (text : List ℕ) (s : PlainScript) (stop : Option Stop) → Reads text s → shown stop text ≡ diagnosed stop text
shown_script text s stop reads =
    ap₂ (λ (x : List ℕ) (f : Option ScriptFault). diagnosed stop x ++ marks f) (sym (of_script text s reads)) (sym (fault_none text s reads)) ∙ append-nil (diagnosed stop text)
