-- What scripts mean to an editor: the diagnostics of a text, and the results of requests about it. (This project's.)
use Rattle.std.specs.Prelude.{ℕ, List}
use Rattle.rb_lsp.specs.declared.server.client.Client.{Client}
use Rattle.rb_lsp.specs.declared.server.query.Query.{Query}
use Rattle.rb_lsp.specs.declared.server.query.Query.TheVariants.{CodeAction, Formatting, RangeFormatting, Hover, Completion, FoldingRange, DocumentSymbol, Definition, References, DocumentHighlight, CodeLens, InlayHint, SelectionRange, Rows}
use Rattle.rb_lsp.specs.Meanings.{Meaning}
use Rattle.rb_editor.specs.Folds.{folds}
use Rattle.rb_editor.specs.Formatting.{formatting}
use Rattle.rb_editor.specs.Symbols.{symbols}
use Rattle.rb_editor.specs.Published.{diagnose}
use Rattle.rb_editor.specs.Actions.{actions}
use Rattle.rb_editor.specs.Completing.{complete}
use Rattle.rb_editor.specs.Hints.{hints}
use Rattle.rb_editor.specs.Hovers.{hover}
use Rattle.rb_editor.specs.Lenses.{lenses}
use Rattle.rb_editor.specs.MessagePlaces.{definition, highlighted, references}
use Rattle.rb_editor.specs.RangeFormatting.{range_formatting}
use Rattle.rb_editor.specs.Selections.{selection}
use Rattle.rb_editor.specs.Served.{may_stop_above, text_for}
use Rattle.rb_editor.specs.SomeRows.{rows}
use Rattle.rb_editor.specs.Stops.{needs_run}

-- by the text that the request is answered by
abbrev pub answer_by : Client → Query → List ℕ → List ℕ → List ℕ
answer_by client (CodeAction range) uri text = actions client.encoding range uri text
answer_by client Formatting uri text = formatting client.encoding text
answer_by client (RangeFormatting range) uri text = range_formatting client.encoding range text
answer_by client (Hover position) uri text = hover client.encoding position text
answer_by client (Completion position) uri text = complete client position text
answer_by client FoldingRange uri text = folds text
answer_by client DocumentSymbol uri text = symbols client.encoding text
answer_by client (Definition position) uri text = definition client.encoding position uri text
answer_by client (References position includes) uri text = references client.encoding position includes uri text
answer_by client (DocumentHighlight position) uri text = highlighted client.encoding position text
answer_by client CodeLens uri text = lenses client uri text
answer_by client (InlayHint range) uri text = hints client range text
answer_by client (SelectionRange position) uri text = selection client.encoding position text
answer_by client (Rows span) uri text = rows span uri text

abbrev pub answer : Client → Query → List ℕ → List ℕ → List ℕ
answer client asked uri text = answer_by client asked uri (text_for asked text)

abbrev pub meaning : Meaning
meaning = record { diagnose = diagnose; answer = answer; needs_run = needs_run; may_stop = may_stop_above }
