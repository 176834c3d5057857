-- What is served of a text that isn't a script: the text above the block with its first fault, and a mark for the fault. (This project's.)
use Rattle.std.specs.Prelude.{ℕ, ◌-◌, Bool, List, [], ◌∷◌, ◌++◌, Option, Some, None, Result, Ok, Err}
use Rattle.rb_script.specs.declared.fault.ScriptFault.{ScriptFault}
use Rattle.rb_script.specs.Lines.{lines}
use Rattle.rb_script.specs.Script.{PlainScript}
use Rattle.rb_script.specs.Reading.{read_of}
use Rattle.rb_report.specs.Refusals.{fault_line}
use Rattle.rb_lsp.specs.declared.server.stop.Stop.{Stop}
use Rattle.rb_lsp.specs.declared.server.query.Query.{Query}
use Rattle.rb_lsp.specs.declared.server.query.Query.TheVariants.{Completion, Definition, DocumentHighlight, Formatting, RangeFormatting, References, SelectionRange, Rows}
use Rattle.rb_editor.specs.declared.offers.part.Part.TheVariants.{Lead}
use Rattle.rb_editor.specs.Above.{begun_lines}
use Rattle.rb_editor.specs.Diagnostics.{PlainDiagnostic}
use Rattle.rb_editor.specs.Findings.{above, diagnosed, or_first, refused}
use Rattle.rb_editor.specs.Stops.{may_stop}

abbrev pub fault_in : Result PlainScript ScriptFault → Option ScriptFault
fault_in (Ok s) = None
fault_in (Err fault) = Some fault

-- why a text isn't a script, if it isn't one
unfoldable pub fault_of : List ℕ → Option ScriptFault
fault_of text = fault_in (read_of text)

-- the line of the head of the block that has this line; the line itself if it is in none
abbrev pub block_line : ℕ → List ℕ → ℕ
block_line line text = line - begun_lines Lead 0 (lines (above line text))

-- the text above the block with this fault; all of it if there is none
abbrev pub above_fault : List ℕ → Option ScriptFault → List ℕ
above_fault text None = text
above_fault text (Some fault) = above (block_line (or_first (fault_line fault)) text) text

-- the text that is served: the whole of a script
unfoldable pub served : List ℕ → List ℕ
served text = above_fault text (fault_of text)

-- The text by which a request is answered. A text that isn't a script isn't formatted, has no rows, and can be completed anywhere; messages are found in all
-- of it, and pieces of all lines are selected.
abbrev pub text_for : Query → List ℕ → List ℕ
text_for Formatting text = text
text_for (RangeFormatting range) text = text
text_for (Completion position) text = text
text_for (Definition position) text = text
text_for (References position includes) text = text
text_for (DocumentHighlight position) text = text
text_for (SelectionRange position) text = text
text_for (Rows span) text = text
text_for asked text = served text

-- the mark of a fault
abbrev pub marks : Option ScriptFault → List PlainDiagnostic
marks None = []
marks (Some fault) = refused fault ∷ []

-- the diagnostics of the text that is served, and the mark of the fault below it
abbrev pub shown : Option Stop → List ℕ → List PlainDiagnostic
shown stop text = diagnosed stop (served text) ++ marks (fault_of text)

-- the run of the text that is served may stop at each of its directives
abbrev pub may_stop_above : List ℕ → Stop → Bool
may_stop_above text stop = may_stop (served text) stop
