-- What is shown of a position in a script: the output of the directive there, with the reasons that `check --why` shows, and the cluster after it.
-- (LSP 3.17, "Hover Request".)
use Rattle.std.specs.Prelude.{ℕ, ◌+◌, if◌then◌else◌, List, [], ◌∷◌, ◌++◌, codes, Result, Ok, Err}
use Rattle.std.specs.List.{flat_map}
use Rattle.rb_script.specs.declared.fault.ScriptFault.{ScriptFault}
use Rattle.rb_script.specs.Lines.{Line, lines, text_of}
use Rattle.rb_script.specs.Script.{PlainBlock, PlainScript}
use Rattle.rb_script.specs.Reading.{directive_of, read_of}
use Rattle.rb_machine.specs.Outcome.{execution}
use Rattle.rb_replay.specs.Run.{outputs, state}
use Rattle.rb_report.specs.Whys.{reason_at}
use Rattle.rb_script_report.specs.Whys.{reasons_of}
use Rattle.rb_view.specs.Looks.{looked}
use Rattle.rb_text.specs.Json.{escaped}
use Rattle.rb_lsp.specs.declared.document.position.Encoding.{Encoding}
use Rattle.rb_lsp.specs.declared.document.position.Position.{Position}
use Rattle.rb_lsp.specs.Tables.{start_of}
use Rattle.rb_editor.specs.Heads.{heads_of}
use Rattle.rb_editor.specs.Texts.{range_member}
use Rattle.rb_editor.specs.declared.actions.extent.Extent.{Extent}
use Rattle.rb_editor.specs.Layouts.{line_at}
use Rattle.rb_editor.specs.Extents.{extent_of, has_line}

-- a line of an output, and the reason below it
abbrev pub explained_line : List Line → ℕ → Line → List ℕ
explained_line reasons at line = line ++ (codes "\n" ++ reason_at reasons at)

-- lines of an output, from an index on
abbrev pub explained : List Line → ℕ → List Line → List ℕ
explained reasons at [] = []
explained reasons at (line ∷ ls) = explained_line reasons at line ++ explained reasons (at + 1) ls

-- the reasons of the output of a block, which is after n others
abbrev pub reasons_at : PlainScript → ℕ → PlainBlock → List Line
reasons_at s n b = reasons_of (execution (state s n) (directive_of b))

-- an output with its reasons, an empty line, and what is seen after it
abbrev pub shown : List Line → List Line → List Line → List ℕ
shown output reasons seen = explained reasons 0 output ++ (10 ∷ text_of seen)

-- a text for the lines of a directive
unfoldable pub hover_text : Encoding → List ℕ → Extent → List ℕ → List ℕ
hover_text encoding text e shown =
    range_member (start_of encoding e.head text) (start_of encoding e.end text) ++ (codes ",\"contents\":{\"kind\":\"plaintext\",\"value\":\"" ++ (flat_map escaped shown ++ codes "\"}}"))

-- of the directives of a script, after n others, the first that has the line; nothing if none has it
abbrev pub hover_in : Encoding → List ℕ → PlainScript → ℕ → ℕ → List ℕ → List PlainBlock → List (List Line) → List ℕ
hover_in encoding text s line n (head ∷ heads) (b ∷ bs) (output ∷ os) =
    if has_line line line (extent_of (lines text) head b) then hover_text encoding text (extent_of (lines text) head b) (shown output (reasons_at s n b) (looked s (n + 1)))
    else hover_in encoding text s line (n + 1) heads bs os
hover_in encoding text s line n heads bs os = codes "null"

-- of a text that is read so
abbrev pub hover_of : Encoding → Position → List ℕ → Result PlainScript ScriptFault → List ℕ
hover_of encoding position text (Err fault) = codes "null"
hover_of encoding position text (Ok s) = hover_in encoding text s (line_at encoding position text) 0 (heads_of text s) s.blocks (outputs s)

unfoldable pub hover : Encoding → Position → List ℕ → List ℕ
hover encoding position text = hover_of encoding position text (read_of text)
