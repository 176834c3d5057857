-- The text after an editor has made the edits of an action. (LSP 3.17, "TextEdit[]".)
use Rattle.std.specs.Prelude.{ℕ, if◌then◌else◌, List, [], ◌∷◌, Option}
use Rattle.rb_script.specs.Lines.{Line, lines}
use Rattle.rb_script.specs.Script.{PlainBlock, PlainScript, expecting}
use Rattle.rb_replay.specs.Run.{outputs}
use Rattle.rb_script_report.specs.declared.accept_options.AcceptFilter.{AcceptFilter}
use Rattle.rb_lsp.specs.declared.document.position.Encoding.{Encoding}
use Rattle.rb_lsp.specs.Places.{offset}
use Rattle.rb_lsp.specs.Changes.{spliced}
use Rattle.rb_editor.specs.Heads.{heads_of}
use Rattle.rb_editor.specs.declared.actions.extent.LineSpan.{LineSpan}
use Rattle.rb_editor.specs.Actions.{PlainEdit, Picks, is_wanted}

-- the directives, with their outputs as the expectations of those that are wanted
abbrev pub with_picked : Picks → List ℕ → List PlainBlock → List (List Line) → List PlainBlock
with_picked picks heads [] os = []
with_picked picks (line ∷ heads) (b ∷ bs) (output ∷ os) = (if picks line b output then expecting b output else b) ∷ with_picked picks heads bs os
with_picked picks heads bs os = bs

-- The text after edits. Their ranges are those of the text before, so the last edit is made first: none moves what another replaces.
abbrev pub edits_made : Encoding → List ℕ → List PlainEdit → List ℕ
edits_made encoding text [] = text
edits_made encoding text (e ∷ es) = spliced (offset encoding e.range.start text) (offset encoding e.range.end text) e.new (edits_made encoding text es)

-- the script that they have to make
abbrev pub with_wanted : List ℕ → PlainScript → AcceptFilter → Option LineSpan → PlainScript
with_wanted text s picked span = record { blocks = with_picked (is_wanted picked span (lines text)) (heads_of text s) s.blocks (outputs s); tail = s.tail }
