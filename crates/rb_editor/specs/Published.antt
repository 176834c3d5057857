-- Diagnostics as an editor is sent them: those of one fresh run of a text. (LSP 3.17, "Diagnostic": severity 1 is an error, 2 a warning, 3 information. A
-- range of whole lines ends where the next begins. "DiagnosticRelatedInformation": a message for another place, by the URI of its document
-- and a range.)
use Rattle.std.specs.Prelude.{ℕ, ◌-◌, Bool, true, false, if◌then◌else◌, List, [], ◌++◌, Option, Some, None, codes}
use Rattle.std.specs.List.{flat_map}
use Rattle.rb_text.specs.Json.{escaped}
use Rattle.rb_lsp.specs.declared.document.position.Encoding.{Encoding}
use Rattle.rb_lsp.specs.Tables.{start_of}
use Rattle.rb_lsp.specs.declared.server.client.Client.{Client}
use Rattle.rb_lsp.specs.declared.server.stop.Stop.{Stop}
use Rattle.rb_editor.specs.Texts.{list_text, range_member}
use Rattle.rb_editor.specs.declared.actions.diagnostic.DiagnosticKind.{DiagnosticKind}
use Rattle.rb_editor.specs.declared.actions.diagnostic.DiagnosticKind.TheVariants.{Mismatch, LaterMismatch, ErrorOutput, NoScript, Slip, Stopped}
use Rattle.rb_editor.specs.Diagnostics.{PlainActualOutput, PlainDiagnostic}
use Rattle.rb_editor.specs.Served.{shown}
use Rattle.rb_editor.specs.ShownMessages.{shown_message}
use Rattle.rb_editor.specs.declared.actions.told.TheConstants.{MAX_TOLD}
use Rattle.rb_editor.specs.Told.{all_told}

-- the severity, and the code
unfoldable pub kind_text : Bool → DiagnosticKind → List ℕ
kind_text softens_later Mismatch = codes ",\"severity\":1,\"code\":\"mismatch\",\"source\":\"raftbench\",\"message\":\""
kind_text softens_later LaterMismatch =
    if softens_later then codes ",\"severity\":3,\"code\":\"mismatch\",\"source\":\"raftbench\",\"message\":\"" else codes ",\"severity\":1,\"code\":\"mismatch\",\"source\":\"raftbench\",\"message\":\""
kind_text softens_later ErrorOutput = codes ",\"severity\":2,\"code\":\"error-output\",\"source\":\"raftbench\",\"message\":\""
kind_text softens_later NoScript = codes ",\"severity\":1,\"code\":\"no-script\",\"source\":\"raftbench\",\"message\":\""
kind_text softens_later Slip = codes ",\"severity\":2,\"code\":\"slip\",\"source\":\"raftbench\",\"message\":\""
kind_text softens_later Stopped = codes ",\"severity\":2,\"code\":\"stopped\",\"source\":\"raftbench\",\"message\":\""

-- the range from one line of a text up to another
unfoldable pub place_text : Encoding → List ℕ → ℕ → ℕ → List ℕ
place_text encoding text first behind = codes ",\"relatedInformation\":[{\"location\":" ++ range_member (start_of encoding first text) (start_of encoding behind text)

-- the document in which it is, and the actual output
unfoldable pub shown_text : List ℕ → List ℕ → List ℕ
shown_text uri shown = codes ",\"uri\":\"" ++ (flat_map escaped uri ++ (codes "\"},\"message\":\"" ++ (flat_map escaped shown ++ codes "\"}]")))

-- the actual output, at the lines that expect another
unfoldable pub related_text : Encoding → List ℕ → List ℕ → PlainActualOutput → List ℕ
related_text encoding uri text c = place_text encoding text c.first c.behind ++ shown_text uri c.shown

-- the same, if there is one and the client takes it
abbrev pub related_if : Bool → Encoding → List ℕ → List ℕ → Option PlainActualOutput → List ℕ
related_if false encoding uri text came = []
related_if true encoding uri text None = []
related_if true encoding uri text (Some c) = related_text encoding uri text c

unfoldable pub message_text : Bool → PlainDiagnostic → List ℕ
message_text softens_later d = kind_text softens_later d.kind ++ (flat_map escaped (shown_message d.message) ++ codes "\"")

unfoldable pub diagnostic_text : Client → List ℕ → List ℕ → PlainDiagnostic → List ℕ
diagnostic_text client uri text d =
    range_member (start_of client.encoding (d.line - 1) text) (start_of client.encoding d.line text)
    ++ (message_text client.softens_later d ++ (related_if client.takes_related client.encoding uri text d.came ++ codes "}"))

-- What is told of a text. It depends on the text alone, on where its run stopped, if it did, on the URI of its document, and on what the client
-- counts in and takes.
abbrev pub diagnose : Option Stop → Client → List ℕ → List ℕ → List ℕ
diagnose stop client uri text = list_text (diagnostic_text client uri text) (all_told MAX_TOLD (shown stop text))
