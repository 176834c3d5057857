-- The methods that a server knows, by name. (LSP 3.17; `raftbench/rows` is this project's.)
use Rattle.std.specs.Prelude.{ℕ, Bool, true, false, List, codes, if◌then◌else◌}
use Rattle.std.specs.Str.{bytes_eq}
use Rattle.rb_lsp.specs.declared.server.method.Method.{Method}
use Rattle.rb_lsp.specs.declared.server.method.Method.TheVariants.{Initialize, Shutdown, Exit, DidOpen, DidChange, DidClose, Asks, Unknown}
use Rattle.rb_lsp.specs.declared.server.method.Question.TheVariants.{CodeAction, Formatting, RangeFormatting, Hover, Completion, FoldingRange, DocumentSymbol, Definition, References, DocumentHighlight, CodeLens, InlayHint, Diagnostic, SelectionRange, Rows}

-- that asks something of a whole document
unfoldable pub whole_method : List ℕ → Method
whole_method name =
    if bytes_eq name (codes "textDocument/formatting") then Asks Formatting
    else (if bytes_eq name (codes "textDocument/foldingRange") then Asks FoldingRange
    else (if bytes_eq name (codes "textDocument/documentSymbol") then Asks DocumentSymbol
    else (if bytes_eq name (codes "textDocument/codeLens") then Asks CodeLens
    else (if bytes_eq name (codes "textDocument/diagnostic") then Asks Diagnostic else Unknown))))

-- that asks where else something is, or about a range
unfoldable pub message_method : List ℕ → Method
message_method name =
    if bytes_eq name (codes "textDocument/definition") then Asks Definition
    else (if bytes_eq name (codes "textDocument/references") then Asks References
    else (if bytes_eq name (codes "textDocument/documentHighlight") then Asks DocumentHighlight
    else (if bytes_eq name (codes "textDocument/rangeFormatting") then Asks RangeFormatting
    else (if bytes_eq name (codes "textDocument/inlayHint") then Asks InlayHint
    else (if bytes_eq name (codes "textDocument/selectionRange") then Asks SelectionRange else whole_method name)))))

-- that asks something of a part of it, or of it all
unfoldable pub question_method : List ℕ → Method
question_method name =
    if bytes_eq name (codes "textDocument/hover") then Asks Hover
    else (if bytes_eq name (codes "textDocument/codeAction") then Asks CodeAction else (if bytes_eq name (codes "textDocument/completion") then Asks Completion else (if bytes_eq name (codes "raftbench/rows") then Asks Rows else message_method name)))

-- of a document
unfoldable pub document_method : List ℕ → Method
document_method name =
    if bytes_eq name (codes "textDocument/didOpen") then DidOpen
    else (if bytes_eq name (codes "textDocument/didChange") then DidChange else (if bytes_eq name (codes "textDocument/didClose") then DidClose else question_method name))

unfoldable pub method_of : List ℕ → Method
method_of name =
    if bytes_eq name (codes "initialize") then Initialize
    else (if bytes_eq name (codes "shutdown") then Shutdown else (if bytes_eq name (codes "exit") then Exit else document_method name))

-- whether it is about a document
abbrev pub is_of_documents : Method → Bool
is_of_documents DidOpen = true
is_of_documents DidChange = true
is_of_documents DidClose = true
is_of_documents method = false
