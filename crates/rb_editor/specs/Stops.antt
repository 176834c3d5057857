-- At which directives the run of a text may stop, and which requests need its end. (This project's.)
use Rattle.std.specs.Prelude.{ℕ, ◌==◌, Bool, true, false, if◌then◌else◌, nat_le, List, map, slice_get, slice_range, Option, Some, None, Result, Ok, Err}
use Rattle.std.specs.List.{list_any}
use Rattle.rb_script.specs.declared.fault.ScriptFault.{ScriptFault}
use Rattle.rb_script.specs.Lines.{Line, lines}
use Rattle.rb_script.specs.Script.{PlainScript}
use Rattle.rb_script.specs.Reading.{read_of}
use Rattle.rb_lsp.specs.declared.server.stop.Stop.{Stop}
use Rattle.rb_lsp.specs.declared.server.query.Query.{Query}
use Rattle.rb_lsp.specs.declared.server.query.Query.TheVariants.{CodeAction, CodeLens, Hover, InlayHint, Rows}
use Rattle.rb_editor.specs.declared.offers.block_lines.BlockLines.{BlockLines}
use Rattle.rb_editor.specs.BlockLines.{blocks_of}
use Rattle.rb_editor.specs.Heads.{heads_of}

-- what shows or accepts outputs needs the run of the text
abbrev pub needs_run : Query → Bool
needs_run (CodeAction range) = true
needs_run (Hover position) = true
needs_run CodeLens = true
needs_run (InlayHint range) = true
needs_run (Rows span) = true
needs_run asked = false

-- the line of a directive's head, by its index, in a text that is read so
abbrev pub head_in : List ℕ → ℕ → Result PlainScript ScriptFault → Option ℕ
head_in text index (Err fault) = None
head_in text index (Ok s) = slice_get (heads_of text s) index

abbrev pub head_line : List ℕ → ℕ → Option ℕ
head_line text index = head_in text index (read_of text)

abbrev pub is_line : Option ℕ → ℕ → Bool
is_line None line = false
is_line (Some n) line = n == line

-- the head of the directive at an index is on this line
abbrev pub is_head : List ℕ → ℕ → ℕ → Bool
is_head text index line = is_line (head_line text index) line

-- the head of some directive is on this line, in a text that is read so
abbrev pub has_head : List ℕ → Result PlainScript ScriptFault → ℕ → Bool
has_head text (Err fault) line = false
has_head text (Ok s) line = list_any (λ n. n == line) (heads_of text s)

-- the run of a text may stop at each of its directives
abbrev pub may_stop : List ℕ → Stop → Bool
may_stop text stop = has_head text (read_of text) stop.line

-- the lines of a block from its head up to and with its line `----`
abbrev pub directive_in : List Line → BlockLines → List Line
directive_in ls b = slice_range ls b.from b.below

-- those of each block of a text; none if it isn't a script
abbrev pub directives_in : List ℕ → List (List Line)
directives_in text = map (directive_in (lines text)) (blocks_of text)

-- the work at which a directive was refused, after it was refused at this much: only if that met the bound
abbrev pub refused_at : ℕ → ℕ → Option ℕ → Option ℕ
refused_at bound work before = if nat_le bound work then Some work else before
