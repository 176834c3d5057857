-- Inlay hints: who leads after a directive, and in which term, on the directive's line `----`. (LSP 3.17, "Inlay Hint Request".)
use Rattle.std.specs.Prelude.{ℕ, ◌+◌, ◌-◌, ◌==◌, Bool, true, false, ◌&&◌, ◌||◌, max, nat_le, nat_lt, if◌then◌else◌, List, [], ◌∷◌, ◌++◌, codes, decimal, length, slice_index_or, Option, Some, None, Result, Ok, Err}
use Rattle.rb_script.specs.declared.fault.ScriptFault.{ScriptFault}
use Rattle.rb_script.specs.Lines.{Line, lines}
use Rattle.rb_script.specs.Script.{PlainBlock, PlainScript}
use Rattle.rb_script.specs.Reading.{read_of}
use Rattle.rb_message.specs.declared.role.Role.{Role}
use Rattle.rb_message.specs.declared.role.Role.TheVariants.{Leader}
use Rattle.rb_node.specs.Node.{PlainNode}
use Rattle.rb_replay.specs.Run.{state}
use Rattle.rb_lsp.specs.declared.document.position.Encoding.{Encoding}
use Rattle.rb_lsp.specs.declared.document.position.Position.{Position}
use Rattle.rb_lsp.specs.declared.document.position.Range.{Range}
use Rattle.rb_lsp.specs.declared.server.client.Client.{Client}
use Rattle.rb_lsp.specs.Tables.{start_of}
use Rattle.rb_editor.specs.declared.actions.extent.LineSpan.{LineSpan}
use Rattle.rb_editor.specs.declared.actions.inlay_hint.InlayHint.{InlayHint}
use Rattle.rb_editor.specs.declared.actions.leadership.Leadership.{Leadership}
use Rattle.rb_editor.specs.declared.offers.block_lines.BlockLines.{BlockLines}
use Rattle.rb_editor.specs.Actions.{span_of}
use Rattle.rb_editor.specs.BlockLines.{block_lines}
use Rattle.rb_editor.specs.Heads.{heads_of}
use Rattle.rb_editor.specs.Texts.{list_text, position_text}

-- ---- who leads

abbrev pub is_leader : Role → Bool
is_leader Leader = true
is_leader role = false

-- a node leads, in a greater term than the leader that is known, if one is; 0 is nobody
abbrev pub takes_over : Leadership → PlainNode → Bool
takes_over l n = is_leader n.role && (l.leader == 0 || nat_lt l.term n.term)

-- with one node more
abbrev pub with_node : Leadership → PlainNode → Leadership
with_node l n = record {
  leader = if takes_over l n then n.id else l.leader;
  term = if takes_over l n then n.term else l.term;
  last_term = max l.last_term n.term;
}

abbrev pub with_nodes : Leadership → List PlainNode → Leadership
with_nodes l [] = l
with_nodes l (n ∷ ns) = with_nodes (with_node l n) ns

abbrev pub NOBODY : Leadership
NOBODY = record { leader = 0; term = 0; last_term = 0 }

-- of some nodes, the leader of the greatest term, and the greatest term
abbrev pub leadership : List PlainNode → Option Leadership
leadership ns = if length ns == 0 then None else Some (with_nodes NOBODY ns)

unfoldable pub label_text : Leadership → List ℕ
label_text l = if l.leader == 0 then codes "no leader, term " ++ decimal l.last_term else codes "leader " ++ (decimal l.leader ++ (codes ", term " ++ decimal l.term))

-- ---- the hints of a script

abbrev pub is_in : LineSpan → ℕ → Bool
is_in span line = nat_le span.first line && nat_le line span.last

-- the line `----` of a directive with these lines, if it is one of those that are asked for
abbrev pub line_within : LineSpan → BlockLines → Option ℕ
line_within span p = if is_in span (p.below - 1) then Some (p.below - 1) else None

-- at the end of this line
abbrev pub hint_at : List Line → Option ℕ → Option Leadership → List InlayHint
hint_at ls None l = []
hint_at ls (Some line) None = []
hint_at ls (Some line) (Some l) = record { line = line; column = length (slice_index_or ls line []); leadership = l } ∷ []

-- those of directives after n others, each by the cluster after it
abbrev pub hints_from : List Line → PlainScript → LineSpan → ℕ → List ℕ → List PlainBlock → List InlayHint
hints_from ls s span n [] bs = []
hints_from ls s span n (head ∷ heads) [] = []
hints_from ls s span n (head ∷ heads) (b ∷ bs) = hint_at ls (line_within span (block_lines ls head b)) (leadership (state s (n + 1)).nodes) ++ hints_from ls s span (n + 1) heads bs

abbrev pub hints_in : List ℕ → PlainScript → LineSpan → List InlayHint
hints_in text s span = hints_from (lines text) s span 0 (heads_of text s) s.blocks

-- ---- as they are sent

-- the line is an editor's; the column counts bytes, which are ASCII there
abbrev pub hint_place : Encoding → List ℕ → InlayHint → Position
hint_place encoding text h = record { line = (start_of encoding h.line text).line; character = h.column }

unfoldable pub hint_text : Encoding → List ℕ → InlayHint → List ℕ
hint_text encoding text h = codes "{\"position\":" ++ (position_text (hint_place encoding text h) ++ (codes ",\"label\":\"" ++ (label_text h.leadership ++ codes "\",\"paddingLeft\":true}")))

-- of a text that is read so
abbrev pub hints_of : Encoding → Range → List ℕ → Result PlainScript ScriptFault → List ℕ
hints_of encoding range text (Err fault) = codes "[]"
hints_of encoding range text (Ok s) = list_text (hint_text encoding text) (hints_in text s (span_of encoding range text))

unfoldable pub all_hints : Encoding → Range → List ℕ → List ℕ
all_hints encoding range text = hints_of encoding range text (read_of text)

-- none if the client's settings say so
abbrev pub hints : Client → Range → List ℕ → List ℕ
hints client range text = if client.shows_hints then all_hints client.encoding range text else codes "[]"
