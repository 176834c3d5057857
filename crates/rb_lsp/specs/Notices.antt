-- Notifications about documents, and what is published for each: the diagnostics of its current text. (LSP 3.17, "PublishDiagnostics
-- Notification".)
use Rattle.std.specs.Prelude.{ℕ, nat_le, Bool, ◌&&◌, not, is_some, if◌then◌else◌, List, [], ◌++◌, Option, Some, None, codes, decimal, option_map}
use Rattle.std.specs.List.{flat_map}
use Rattle.serde_json.specs.Data.{Data}
use Rattle.rb_text.specs.Json.{escaped}
use Rattle.rb_lsp.specs.Messages.{frame}
use Rattle.rb_lsp.specs.Params.{number_below, text_below}
use Rattle.rb_lsp.specs.declared.server.client.Client.{Client}
use Rattle.rb_lsp.specs.declared.server.method.Method.{Method}
use Rattle.rb_lsp.specs.declared.server.method.Method.TheVariants.{DidChange}
use Rattle.rb_lsp.specs.declared.server.phase.Phase.{Phase}
use Rattle.rb_lsp.specs.declared.server.phase.Phase.TheVariants.{Running}
use Rattle.rb_lsp.specs.declared.server.stop.Stop.{Stop}
use Rattle.rb_lsp.specs.declared.server.reach.Reach.{Reach}
use Rattle.rb_lsp.specs.declared.server.reach.Reach.TheVariants.{Whole, Stopped, NoMemory}
use Rattle.rb_lsp.specs.Methods.{is_of_documents}
use Rattle.rb_lsp.specs.Documents.{PlainDocument, text_of, version_of, closed, has_room, kept}
use Rattle.rb_lsp.specs.DocumentChanges.{text_after}
use Rattle.rb_lsp.specs.Meanings.{Meaning}

-- ---- diagnostics that are published

-- the version of the text, if it has one, and the beginning of the list
unfoldable pub middle_text : Option ℕ → List ℕ
middle_text None = codes ",\"diagnostics\":"
middle_text (Some n) = codes ",\"version\":" ++ (decimal n ++ codes ",\"diagnostics\":")

-- one of the whole first line: memory was refused (LSP 3.17, "Diagnostic"; the code and the sentence are this project's)
unfoldable pub no_memory_list : List ℕ
no_memory_list =
    codes "[{\"range\":{\"start\":{\"line\":0,\"character\":0},\"end\":{\"line\":1,\"character\":0}},\"severity\":1,\"code\":\"no-memory\",\"source\":\"raftbench\",\"message\":\"no memory for a run of this script\"}]"

-- one of the whole first line: too many documents are open to check this one
unfoldable pub crowded_list : List ℕ
crowded_list =
    codes "[{\"range\":{\"start\":{\"line\":0,\"character\":0},\"end\":{\"line\":1,\"character\":0}},\"severity\":2,\"code\":\"not-checked\",\"source\":\"raftbench\",\"message\":\"this script is not checked: 1,000 others are open\"}]"

-- for a document that isn't open: none, or the one that says that it doesn't fit
abbrev pub closed_list : Bool → List ℕ
closed_list is_crowded = if is_crowded then crowded_list else codes "[]"

-- how far a text was done whose run stopped here, if it did
abbrev pub reach_of : Option Stop → Reach
reach_of None = Whole
reach_of (Some stop) = Stopped stop

-- the diagnostics of a text, as far as it was run; if memory was refused, the one that says so
abbrev pub list_by : Meaning → Reach → Client → List ℕ → List ℕ → List ℕ
list_by meaning NoMemory client uri text = no_memory_list
list_by meaning (Stopped stop) client uri text = meaning.diagnose (Some stop) client uri text
list_by meaning reach client uri text = meaning.diagnose None client uri text

-- Those that are published: of an open document, unless the client asks for them itself, or of one that isn't open.
abbrev pub list_text : Meaning → Reach → Client → List ℕ → Bool → Option (List ℕ) → Option (List ℕ)
list_text meaning reach client uri is_crowded None = Some (closed_list is_crowded)
list_text meaning reach client uri is_crowded (Some text) = if client.pulls then None else Some (list_by meaning reach client uri text)

unfoldable pub head_text : List ℕ → List ℕ
head_text uri = codes "{\"jsonrpc\":\"2.0\",\"method\":\"textDocument/publishDiagnostics\",\"params\":{\"uri\":\"" ++ (flat_map escaped uri ++ codes "\"")

-- with this list
unfoldable pub list_publication : List ℕ → Option ℕ → List ℕ → List ℕ
list_publication uri version list = head_text uri ++ (middle_text version ++ (list ++ codes "}}"))

abbrev pub publication : Meaning → Reach → Client → List ℕ → Option ℕ → Bool → Option (List ℕ) → Option (List ℕ)
publication meaning reach client uri version is_crowded text = option_map (λ list. list_publication uri version list) (list_text meaning reach client uri is_crowded text)

-- ---- a notification

-- a notification about a document: the client, the method, the document's URI, and the parameters
pub record Notice : Type 0 where
  pub client : Client
  pub method : Method
  pub uri : List ℕ
  pub given : Data

abbrev pub with_uri : Client → Method → Data → Option (List ℕ) → Option Notice
with_uri client method d None = None
with_uri client method d (Some uri) = Some (record { client = client; method = method; uri = uri; given = d })

-- it is handled between `initialize` and `shutdown`, if it is about a document
abbrev pub notice_of : Phase → Method → Option Data → Option Notice
notice_of (Running client) method (Some d) =
    if is_of_documents method then with_uri client method d (text_below (codes "textDocument") (codes "uri") d) else None
notice_of phase method params = None

-- the text of its document after it, if these documents are open before it
abbrev pub new_text : Notice → List PlainDocument → Option (List ℕ)
new_text n ds = text_after n.client.encoding n.method n.given (text_of n.uri ds)

-- there is such a text, but it doesn't fit
abbrev pub is_crowded : Notice → List PlainDocument → Bool
is_crowded n ds = is_some (new_text n ds) && not (has_room (closed n.uri ds))

-- the version that it says
abbrev pub told_version : Notice → Option ℕ
told_version n = number_below (codes "textDocument") (codes "version") n.given

-- the known version and a change's, if the change's isn't after the known one ("VersionedTextDocumentIdentifier")
abbrev pub stale_by : Method → Option ℕ → Option ℕ → Option (ℕ × ℕ)
stale_by DidChange (Some known) (Some told) = if nat_le told known then Some (known, told) else None
stale_by method known told = None

abbrev pub stale_versions : Notice → List PlainDocument → Option (ℕ × ℕ)
stale_versions n ds = stale_by n.method (version_of n.uri ds) (told_version n)

-- the documents after it; if its version is stale, those before it
abbrev pub documents_by : Option (ℕ × ℕ) → Notice → List PlainDocument → List PlainDocument
documents_by (Some versions) n ds = ds
documents_by None n ds = kept n.uri (told_version n) (new_text n ds) (closed n.uri ds)

abbrev pub documents_after : Option Notice → List PlainDocument → List PlainDocument
documents_after None ds = ds
documents_after (Some n) ds = documents_by (stale_versions n ds) n ds

-- what is shown of a change whose version is stale (LSP 3.17, "ShowMessage Notification": 2 is a warning; the sentence is this project's)
unfoldable pub stale_text : ℕ → ℕ → List ℕ
stale_text known told =
    codes "{\"jsonrpc\":\"2.0\",\"method\":\"window/showMessage\",\"params\":{\"type\":2,\"message\":\"raftbench: a change was refused: its version, "
    ++ (decimal told ++ (codes ", doesn't follow the document's, " ++ (decimal known ++ codes "; close the document and open it again\"}}")))

-- the diagnostics that are published, or the message that it was refused
abbrev pub notice_body : Meaning → Reach → Option (ℕ × ℕ) → Notice → List PlainDocument → List PlainDocument → Option (List ℕ)
notice_body meaning reach (Some versions) n before ds = Some (stale_text versions.0 versions.1)
notice_body meaning reach None n before ds = publication meaning reach n.client n.uri (told_version n) (is_crowded n before) (text_of n.uri ds)

-- the text that is run for it: its document's, unless it was refused
abbrev pub run_after : Option (ℕ × ℕ) → Notice → List PlainDocument → Option (List ℕ)
run_after (Some versions) n ds = None
run_after None n ds = text_of n.uri ds

abbrev pub notice_run : Option Notice → List PlainDocument → List PlainDocument → Option (List ℕ)
notice_run None before ds = None
notice_run (Some n) before ds = run_after (stale_versions n before) n ds

abbrev pub framed : Option (List ℕ) → List ℕ
framed None = []
framed (Some body) = frame body

-- what is sent, by the documents before it and after it
abbrev pub notice_text : Meaning → Reach → Option Notice → List PlainDocument → List PlainDocument → List ℕ
notice_text meaning reach None before ds = []
notice_text meaning reach (Some n) before ds = framed (notice_body meaning reach (stale_versions n before) n before ds)
