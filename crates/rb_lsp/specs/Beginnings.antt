-- What a client offers at `initialize`, and what the server can do. (LSP 3.17, "Initialize Request" and "PositionEncodingKind".)
use Rattle.std.specs.Prelude.{ℕ, Bool, true, false, ◌||◌, List, Option, Some, None, codes, if◌then◌else◌, is_some, option_and_then, unwrap_or}
use Rattle.std.specs.Str.{bytes_eq}
use Rattle.serde_json.specs.Data.{Data, Items, Members, array, boolean, item, member, no_items, no_members, number, object, string, unsigned}
use Rattle.serde_json.specs.Find.{get, at, as_array, as_bool, as_str, as_object}
use Rattle.rb_lsp.specs.declared.document.position.Encoding.{Encoding}
use Rattle.rb_lsp.specs.declared.document.position.Encoding.TheVariants.{Utf8, Utf16}
use Rattle.rb_lsp.specs.declared.server.client.Client.{Client}

-- the encodings that a client offers
abbrev pub offered : Data → Option Data
offered d = option_and_then (get (codes "positionEncodings")) (option_and_then (get (codes "general")) (get (codes "capabilities") d))

abbrev pub is_bytes : Option (List ℕ) → Bool
is_bytes None = false
is_bytes (Some name) = bytes_eq name (codes "utf-8")

-- the name at place n is that of bytes
abbrev pub names_bytes : ℕ → Data → Bool
names_bytes n d = is_bytes (option_and_then as_str (at n d))

-- bytes are among the first three: the protocol knows three encodings
abbrev pub are_bytes_in : Option Data → Bool
are_bytes_in None = false
are_bytes_in (Some names) = (names_bytes 0 names || names_bytes 1 names) || names_bytes 2 names

abbrev pub offers_bytes : Data → Bool
offers_bytes d = are_bytes_in (offered d)

-- in what columns count: in bytes where the client offers that
abbrev pub chosen_encoding : Data → Encoding
chosen_encoding d = if offers_bytes d then Utf8 else Utf16

-- a client's capabilities for diagnostics ("PublishDiagnosticsClientCapabilities")
abbrev pub of_diagnostics : Data → Option Data
of_diagnostics d = option_and_then (get (codes "publishDiagnostics")) (option_and_then (get (codes "textDocument")) (get (codes "capabilities") d))

-- whether related information is among them
abbrev pub says_related : Data → Option Bool
says_related taken = option_and_then as_bool (get (codes "relatedInformation") taken)

-- it takes related information with a diagnostic
abbrev pub takes_related : Data → Bool
takes_related d = unwrap_or (option_and_then says_related (of_diagnostics d)) false

-- whether a value is an object
abbrev pub is_object : Option Data → Bool
is_object None = false
is_object (Some d) = is_some (as_object d)

-- a client's capabilities for documents ("TextDocumentClientCapabilities")
abbrev pub for_documents : Data → Option Data
for_documents d = option_and_then (get (codes "textDocument")) (get (codes "capabilities") d)

-- it asks for diagnostics ("DiagnosticClientCapabilities")
abbrev pub pulls : Data → Bool
pulls d = is_object (option_and_then (get (codes "diagnostic")) (for_documents d))

-- a client's capabilities for completion items ("CompletionClientCapabilities")
abbrev pub of_items : Data → Option Data
of_items d = option_and_then (get (codes "completionItem")) (option_and_then (get (codes "completion")) (option_and_then (get (codes "textDocument")) (get (codes "capabilities") d)))

-- whether snippets are among them
abbrev pub says_snippets : Data → Option Bool
says_snippets taken = option_and_then as_bool (get (codes "snippetSupport") taken)

-- it takes snippets as completions
abbrev pub takes_snippets : Data → Bool
takes_snippets d = unwrap_or (option_and_then says_snippets (of_items d)) false

-- the commands that a client runs itself (rust-analyzer's extension of the protocol, "Client Commands")
abbrev pub client_commands : Data → Option Data
client_commands d = option_and_then (get (codes "commands")) (option_and_then (get (codes "commands")) (option_and_then (get (codes "experimental")) (get (codes "capabilities") d)))

abbrev pub is_text : List ℕ → Option (List ℕ) → Bool
is_text name None = false
is_text name (Some other) = bytes_eq other name

-- the name is one of these
abbrev pub is_among : List ℕ → Items → Bool
is_among name no_items = false
is_among name (item d ds) = is_text name (as_str d) || is_among name ds

abbrev pub is_one_of : List ℕ → Option Items → Bool
is_one_of name None = false
is_one_of name (Some ds) = is_among name ds

-- it runs the command of this name
abbrev pub runs_command : List ℕ → Data → Bool
runs_command name d = is_one_of name (option_and_then as_array (client_commands d))

-- what the client's settings say under a name (this project's)
abbrev pub says_setting : List ℕ → Data → Option Bool
says_setting name settings = option_and_then as_bool (get name settings)

-- it is so, unless the settings say otherwise
abbrev pub is_set : List ℕ → Data → Bool
is_set name d = unwrap_or (option_and_then (says_setting name) (get (codes "initializationOptions") d)) true

-- the client of these parameters: none if they aren't an object
abbrev pub client_of : Option Data → Option Client
client_of None = None
client_of (Some d) = if is_some (as_object d) then Some (record { encoding = chosen_encoding d; takes_related = takes_related d; takes_snippets = takes_snippets d; pulls = pulls d; runs_accept = runs_command (codes "raftbench.accept") d; opens_pages = runs_command (codes "raftbench.openPage") d; softens_later = is_set (codes "softenLaterMismatches") d; shows_hints = is_set (codes "inlayHints") d }) else None

abbrev pub encoding_name : Encoding → List ℕ
encoding_name Utf8 = codes "utf-8"
encoding_name Utf16 = codes "utf-16"

-- it wants notifications of opened and closed documents, and changes one by one (2, "TextDocumentSyncKind")
unfoldable pub synchronizes : Data
synchronizes = object (member (codes "change") (number (unsigned 2)) (member (codes "openClose") (boolean true) no_members))

-- the characters that trigger completion: an option's values begin after each ("CompletionOptions")
unfoldable pub completes : Data
completes = object (member (codes "triggerCharacters") (array (item (string (codes "=")) (item (string (codes "(")) (item (string (codes ",")) no_items)))) no_members)

-- what a client that asks for diagnostics gets: each document's are of its own text alone ("DiagnosticOptions")
unfoldable pub reports : Data
reports =
    object
    (member (codes "identifier") (string (codes "raftbench")) (member (codes "interFileDependencies") (boolean false) (member (codes "workspaceDiagnostics") (boolean false) no_members)))

abbrev pub reports_if : Bool → Members → Members
reports_if true ms = member (codes "diagnosticProvider") reports ms
reports_if false ms = ms

-- what the server can do, in order by the members' names, from `hoverProvider` on
unfoldable pub last_capabilities : Encoding → Members
last_capabilities encoding =
    member (codes "hoverProvider") (boolean true)
    (member (codes "inlayHintProvider") (boolean true)
    (member (codes "positionEncoding") (string (encoding_name encoding))
    (member (codes "referencesProvider") (boolean true)
    (member (codes "selectionRangeProvider") (boolean true) (member (codes "textDocumentSync") synchronizes no_members)))))

-- from `documentFormattingProvider` on
unfoldable pub document_capabilities : Encoding → Members
document_capabilities encoding =
    member (codes "documentFormattingProvider") (boolean true)
    (member (codes "documentHighlightProvider") (boolean true)
    (member (codes "documentRangeFormattingProvider") (boolean true)
    (member (codes "documentSymbolProvider") (boolean true) (member (codes "foldingRangeProvider") (boolean true) (last_capabilities encoding)))))

-- those before others
abbrev pub first_capabilities : Members → Members
first_capabilities ms =
    member (codes "codeActionProvider") (boolean true)
    (member (codes "codeLensProvider") (object no_members) (member (codes "completionProvider") completes (member (codes "definitionProvider") (boolean true) ms)))

-- the server's capabilities, for a client that asks for diagnostics, or doesn't
unfoldable pub capabilities : Encoding → Bool → Data
capabilities encoding pulls = object (first_capabilities (reports_if pulls (document_capabilities encoding)))

-- what the server can do
unfoldable pub initialized : Encoding → Bool → Data
initialized encoding pulls =
    object
    (member (codes "capabilities") (capabilities encoding pulls)
    (member (codes "serverInfo") (object (member (codes "name") (string (codes "raftbench")) no_members)) no_members))
