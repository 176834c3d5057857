-- The last text whose run stopped, and whether that of another text stops there. (This project's.)
use Rattle.std.specs.Prelude.{◌≡◌, ℕ, ◌+◌, if◌then◌else◌, List, take, Option, Some, None}
use Rattle.std.specs.Str.{bytes_eq}
use Rattle.rb_lsp.specs.declared.server.stop.Stop.{Stop}
use Rattle.rb_lsp.specs.declared.server.query.Query.{Query}
use Rattle.rb_editor.specs.declared.actions.stopped_text.StoppedText.{StoppedText}
use Rattle.rb_editor.specs.Stops.{directives_in, head_line, needs_run}

-- of the last text whose run stopped, if it is this one
abbrev pub stop_of : Option StoppedText → List ℕ → Option Stop
stop_of None text = None
stop_of (Some last) text = if bytes_eq last.text.items text then Some last.stop else None

-- why a request isn't done: it needs the run of the text, and that stopped here
abbrev pub refused_by : Query → Option StoppedText → List ℕ → Option Stop
refused_by asked last text = if needs_run asked then stop_of last text else None

-- The run of a text stops at the directive at which that of the last text did, if this one and all above it are the same.
pub record StopsAgain (last : StoppedText) (text : List ℕ) (stop : Stop) : Type 0 where
  pub line : head_line text last.index ≡ Some stop.line
  pub same : take (last.index + 1) (directives_in text) ≡ take (last.index + 1) (directives_in last.text.items)
  pub work : stop.work ≡ last.stop.work

-- there is such a last text
abbrev pub StopsAsLast : Option StoppedText → List ℕ → Option Stop → Type 0
StopsAsLast (Some last) text (Some stop) = StopsAgain last text stop
StopsAsLast last text stop = ⊥
