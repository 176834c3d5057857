-- Code lenses: at each directive whose output differs, what accepts it, and what opens the page there. (LSP 3.17, "Code Lens Request" and "Command": a
-- client runs a command by its name, which is this project's. A lens is on one line.)
use Rattle.std.specs.Prelude.{ℕ, ◌-◌, ◌==◌, Bool, ◌&&◌, not, if◌then◌else◌, List, [], ◌∷◌, ◌++◌, codes, decimal, length, Option, Some, None, Result, Ok, Err}
use Rattle.std.specs.List.{flat_map}
use Rattle.rb_script.specs.declared.fault.ScriptFault.{ScriptFault}
use Rattle.rb_script.specs.Lines.{Line, lines}
use Rattle.rb_script.specs.Script.{PlainBlock, PlainScript}
use Rattle.rb_script.specs.Reading.{read_of}
use Rattle.rb_replay.specs.Run.{outputs}
use Rattle.rb_replay.specs.Report.{same_lines}
use Rattle.rb_script_report.specs.declared.accept_options.AcceptFilter.TheVariants as picks
use Rattle.rb_script_report.specs.Checked.{of_each}
use Rattle.rb_text.specs.Json.{escaped}
use Rattle.rb_lsp.specs.declared.document.position.Encoding.{Encoding}
use Rattle.rb_lsp.specs.declared.server.client.Client.{Client}
use Rattle.rb_lsp.specs.Tables.{start_of}
use Rattle.rb_editor.specs.declared.actions.extent.Extent.{Extent}
use Rattle.rb_editor.specs.Actions.{edit_text, is_accepted, new_text}
use Rattle.rb_editor.specs.Extents.{extent_of}
use Rattle.rb_editor.specs.Findings.{slips_of}
use Rattle.rb_editor.specs.Heads.{heads_of}
use Rattle.rb_editor.specs.Texts.{list_text, range_member}

-- the lines of a directive, and the text that replaces its expectation
pub record PlainAcceptance : Type 0 where
  pub extent : Extent
  pub new : List ℕ

-- a lens on the line of a directive's head, which counts from 1: it accepts an output, or opens the page
pub record PlainLens : Type 0 where
  pub line : ℕ
  pub accepts : Option PlainAcceptance

-- ---- which there are

abbrev pub acceptance : List ℕ → Extent → List Line → PlainAcceptance
acceptance text e output = record { extent = e; new = new_text text (lines text) e output }

abbrev pub accept_lens : List ℕ → ℕ → PlainBlock → List Line → PlainLens
accept_lens text line b output = record { line = line; accepts = Some (acceptance text (extent_of (lines text) line b) output) }

abbrev pub page_lens : ℕ → PlainLens
page_lens line = record { line = line; accepts = None }

-- what accepts the output of a directive, if it differs and is no new error
abbrev pub accept_if : Bool → List ℕ → ℕ → PlainBlock → List Line → List PlainLens
accept_if accepts text line b output = if accepts && is_accepted picks.All (lines text) line b output then accept_lens text line b output ∷ [] else []

-- what opens the page at a directive, if its output differs
abbrev pub page_if : Bool → ℕ → PlainBlock → List Line → List PlainLens
page_if opens line b output = if opens && not (same_lines b.expected output) then page_lens line ∷ [] else []

abbrev pub lenses_at : Bool → Bool → List ℕ → ℕ → PlainBlock → List Line → List PlainLens
lenses_at accepts opens text line b output = accept_if accepts text line b output ++ page_if opens line b output

-- If a line looks like a mistake nothing is accepted, as by `check --accept`.
abbrev pub may_accept : Client → List ℕ → PlainScript → Bool
may_accept client text s = client.runs_accept && (length (slips_of text s) == 0)

-- those of a script, which accept outputs or don't, and open pages or don't
abbrev pub lenses_by : Bool → Bool → List ℕ → PlainScript → List PlainLens
lenses_by accepts opens text s = of_each (lenses_at accepts opens text) (heads_of text s) s.blocks (outputs s)

abbrev pub lenses_in : Client → List ℕ → PlainScript → List PlainLens
lenses_in client text s = lenses_by (may_accept client text s) client.opens_pages text s

-- ---- as they are sent

-- a command that accepts an output, up to the document's URI
unfoldable pub accept_head : List ℕ
accept_head = codes ",\"command\":{\"title\":\"Accept the actual output\",\"command\":\"raftbench.accept\",\"arguments\":[{\"changes\":{\""

-- a command that makes an edit, which it has with the document's URI
unfoldable pub accept_text : Encoding → List ℕ → List ℕ → PlainAcceptance → List ℕ
accept_text encoding uri text a =
    accept_head
    ++ (flat_map escaped uri ++ (codes "\":[" ++ (edit_text encoding text a.extent a.new ++ codes "]}}]}}")))

-- one that has the document's URI and the line of a head
unfoldable pub page_text : List ℕ → ℕ → List ℕ
page_text uri line =
    codes ",\"command\":{\"title\":\"Open the page here\",\"command\":\"raftbench.openPage\",\"arguments\":[\"" ++ (flat_map escaped uri ++ (codes "\"," ++ (decimal line ++ codes "]}}")))

abbrev pub command_text : Encoding → List ℕ → List ℕ → ℕ → Option PlainAcceptance → List ℕ
command_text encoding uri text line None = page_text uri line
command_text encoding uri text line (Some a) = accept_text encoding uri text a

unfoldable pub lens_text : Encoding → List ℕ → List ℕ → PlainLens → List ℕ
lens_text encoding uri text l = range_member (start_of encoding (l.line - 1) text) (start_of encoding (l.line - 1) text) ++ command_text encoding uri text l.line l.accepts

-- of a text that is read so
abbrev pub lenses_of : Client → List ℕ → List ℕ → Result PlainScript ScriptFault → List ℕ
lenses_of client uri text (Err fault) = codes "[]"
lenses_of client uri text (Ok s) = list_text (lens_text client.encoding uri text) (lenses_in client text s)

unfoldable pub lenses : Client → List ℕ → List ℕ → List ℕ
lenses client uri text = lenses_of client uri text (read_of text)
