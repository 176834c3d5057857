-- Completion with the ids of the cluster's nodes: those after the directives above the place, by one fresh run of these. (LSP 3.17, "Completion
-- Request".)
use Rattle.std.specs.Prelude.{ℕ, if◌then◌else◌, List, take, Result, Ok, Err}
use Rattle.rb_script.specs.declared.fault.ScriptFault.{ScriptFault}
use Rattle.rb_script.specs.Script.{PlainScript}
use Rattle.rb_script.specs.Reading.{read_of}
use Rattle.rb_view.specs.Looks.{nodes_after}
use Rattle.rb_lsp.specs.declared.document.position.Position.{Position}
use Rattle.rb_lsp.specs.declared.server.client.Client.{Client}
use Rattle.rb_editor.specs.Completion.{completion}
use Rattle.rb_editor.specs.Places.{PlainPlace, completion_place, place_takes_ids}

-- after a text that is read so
abbrev pub nodes_of : Result PlainScript ScriptFault → ℕ
nodes_of (Err fault) = 0
nodes_of (Ok s) = nodes_after s

abbrev pub nodes_above : List ℕ → ℕ
nodes_above text = nodes_of (read_of text)

-- above the block of a place, if ids are offered there
abbrev pub nodes_at : List ℕ → PlainPlace → ℕ
nodes_at text p = if place_takes_ids p then nodes_above (take p.block text) else 0

abbrev pub complete_at : Client → List ℕ → PlainPlace → List ℕ
complete_at client text p = completion client text p (nodes_at text p)

unfoldable pub complete : Client → Position → List ℕ → List ℕ
complete client position text = complete_at client text (completion_place client.encoding text position)
