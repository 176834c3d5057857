-- What is asked of a document, and what is answered. (LSP 3.17, "Language Features"; JSON-RPC 2.0, section 5. The sentences are this
-- project's.)
use Rattle.std.specs.Prelude.{ℕ, Bool, true, if◌then◌else◌, List, [], ◌∷◌, ◌++◌, Option, Some, None, codes, option_map, option_and_then, unwrap_or}
use Rattle.std.specs.List.{list_any}
use Rattle.serde_json.specs.Data.{Data}
use Rattle.serde_json.specs.Find.{get, as_array, as_bool}
use Rattle.serde_json.specs.Written.{compact_text}
use Rattle.rb_lsp.specs.declared.server.client.Client.{Client}
use Rattle.rb_lsp.specs.Answers.{failure}
use Rattle.rb_lsp.specs.declared.document.position.Position.{Position}
use Rattle.rb_lsp.specs.Params.{position_at, positions_in, range_at, text_at, text_below}
use Rattle.rb_lsp.specs.declared.rpc.answer.ErrorCode.TheVariants.{InvalidParams, InternalError, RequestCancelled, RequestFailed}
use Rattle.rb_lsp.specs.declared.server.query.Query.{Query}
use Rattle.rb_lsp.specs.declared.server.query.Query.TheVariants as asks
use Rattle.rb_lsp.specs.declared.server.method.Question.{Question}
use Rattle.rb_lsp.specs.declared.server.method.Question.TheVariants.{CodeAction, Formatting, RangeFormatting, Hover, Completion, FoldingRange, DocumentSymbol, Definition, References, DocumentHighlight, CodeLens, InlayHint, Diagnostic, SelectionRange, Rows}
use Rattle.rb_lsp.specs.ItemSpans.{span_of}
use Rattle.rb_lsp.specs.Documents.{PlainDocument, text_of}
use Rattle.rb_lsp.specs.declared.server.reach.Reach.{Reach}
use Rattle.rb_lsp.specs.declared.server.reach.Reach.TheVariants.{Whole, Stopped, Cancelled, NoMemory}
use Rattle.rb_lsp.specs.declared.server.stop.Stop.{Stop}
use Rattle.rb_lsp.specs.Inquiries.{PlainInquiry, one, report, selections}
use Rattle.rb_lsp.specs.Reports.{is_known, report_text}
use Rattle.rb_lsp.specs.Meanings.{Meaning, run_by}

-- whether a definition is one of its references: it is, unless the client says otherwise ("ReferenceContext")
abbrev pub says_includes : Data → Option Bool
says_includes context = option_and_then as_bool (get (codes "includeDeclaration") context)

abbrev pub includes_definition : Data → Bool
includes_definition d = unwrap_or (option_and_then says_includes (get (codes "context") d)) true

-- the query of a service, if it is one, and the method's parameters give it
abbrev pub query_of : Question → Data → Option Query
query_of CodeAction d = option_map (λ range. asks.CodeAction range) (range_at (codes "range") d)
query_of Formatting d = Some asks.Formatting
query_of RangeFormatting d = option_map (λ range. asks.RangeFormatting range) (range_at (codes "range") d)
query_of Hover d = option_map (λ position. asks.Hover position) (position_at (codes "position") d)
query_of Completion d = option_map (λ position. asks.Completion position) (position_at (codes "position") d)
query_of FoldingRange d = Some asks.FoldingRange
query_of DocumentSymbol d = Some asks.DocumentSymbol
query_of Definition d = option_map (λ position. asks.Definition position) (position_at (codes "position") d)
query_of References d = option_map (λ position. asks.References position (includes_definition d)) (position_at (codes "position") d)
query_of DocumentHighlight d = option_map (λ position. asks.DocumentHighlight position) (position_at (codes "position") d)
query_of Rows d = option_map (λ span. asks.Rows span) (span_of d)
query_of CodeLens d = Some asks.CodeLens
query_of InlayHint d = option_map (λ range. asks.InlayHint range) (range_at (codes "range") d)
query_of Diagnostic d = None
query_of SelectionRange d = None

-- what is asked, if the method's parameters give it
abbrev pub asked_of : Question → Data → Option PlainInquiry
asked_of Diagnostic d = Some (report (text_at (codes "previousResultId") d))
asked_of SelectionRange d = option_map (λ ds. selections (positions_in ds)) (option_and_then as_array (get (codes "positions") d))
asked_of question d = option_map (λ query. one query) (query_of question d)

-- the document that is named
abbrev pub uri_of : Data → Option (List ℕ)
uri_of d = text_below (codes "textDocument") (codes "uri") d

-- ---- the answer

-- the text of an answer
unfoldable pub body_text : Data → List ℕ
body_text answer = compact_text answer

-- the beginning of the text of an answer with this id, up to its result
abbrev pub answer_front : Data → List ℕ
answer_front id = codes "{\"id\":" ++ (compact_text id ++ codes ",\"jsonrpc\":\"2.0\",\"result\":")

-- the text of an answer with this id, whose result has this text
unfoldable pub answer_text : Data → List ℕ → List ℕ
answer_text id result = answer_front id ++ (result ++ codes "}")

-- the parameters are not those of the method
unfoldable pub unfit : Data → Data
unfit id = failure id InvalidParams (codes "the method takes other params")

-- if the document isn't open
unfoldable pub not_open : Data → Data
not_open id = failure id InvalidParams (codes "the document isn't open")

-- if memory was refused
unfoldable pub no_memory_for : Data → Data
no_memory_for id = failure id InternalError (codes "no memory for an answer")

-- if the text's run was stopped ("RequestFailed")
unfoldable pub stopped_for : Data → Data
stopped_for id = failure id RequestFailed (codes "the run of this script was stopped")

-- if its client has cancelled it (LSP 3.17, "Cancellation Support")
unfoldable pub cancelled_for : Data → Data
cancelled_for id = failure id RequestCancelled (codes "the request was cancelled")

-- the answer with the report of a text's diagnostics, as far as it was run
abbrev pub report_answer : Meaning → Option Stop → Client → Option (List ℕ) → List ℕ → Data → List ℕ → List ℕ
report_answer meaning stop client known uri id text = answer_text id (report_text known text (meaning.diagnose stop client uri text))

-- what can be selected around positions, `lead` before the first
abbrev pub each_selection : Meaning → Client → List ℕ → List ℕ → List ℕ → List Position → List ℕ
each_selection meaning client uri text lead [] = codes "]"
each_selection meaning client uri text lead (p ∷ ps) = lead ++ (meaning.answer client (asks.SelectionRange p) uri text ++ each_selection meaning client uri text (codes ",") ps)

-- the answer about a text that was run whole, as far as it needs that
abbrev pub whole_text : Meaning → Client → PlainInquiry → List ℕ → Data → List ℕ → List ℕ
whole_text meaning client (one query) uri id text = answer_text id (meaning.answer client query uri text)
whole_text meaning client (report known) uri id text = report_answer meaning None client known uri id text
whole_text meaning client (selections ps) uri id text = answer_text id (codes "[" ++ each_selection meaning client uri text [] ps)

-- if its run stopped
abbrev pub stopped_text : Meaning → Stop → Client → PlainInquiry → List ℕ → Data → List ℕ → List ℕ
stopped_text meaning stop client (one query) uri id text = body_text (stopped_for id)
stopped_text meaning stop client (report known) uri id text = report_answer meaning (Some stop) client known uri id text
stopped_text meaning stop client (selections ps) uri id text = body_text (stopped_for id)

-- the answer about a text, as far as it was run, unless the request was cancelled
abbrev pub text_by : Meaning → Reach → Client → PlainInquiry → List ℕ → Data → List ℕ → List ℕ
text_by meaning NoMemory client asked uri id text = body_text (no_memory_for id)
text_by meaning Cancelled client asked uri id text = body_text (cancelled_for id)
text_by meaning (Stopped stop) client asked uri id text = stopped_text meaning stop client asked uri id text
text_by meaning Whole client asked uri id text = whole_text meaning client asked uri id text

-- the answer about a document, by its text if it is open
abbrev pub of_text : Meaning → Reach → Client → PlainInquiry → List ℕ → Data → Option (List ℕ) → List ℕ
of_text meaning reach client asked uri id None = body_text (not_open id)
of_text meaning reach client asked uri id (Some text) = text_by meaning reach client asked uri id text

-- the answer about the document that is named, by the request
abbrev pub with_asked : Meaning → Reach → Client → List PlainDocument → Data → Option (List ℕ) → Option PlainInquiry → List ℕ
with_asked meaning reach client ds id None asked = body_text (unfit id)
with_asked meaning reach client ds id (Some uri) None = body_text (unfit id)
with_asked meaning reach client ds id (Some uri) (Some asked) = of_text meaning reach client asked uri id (text_of uri ds)

-- the answer, by the method's parameters
abbrev pub question_body : Meaning → Reach → Client → List PlainDocument → Question → Option Data → Data → List ℕ
question_body meaning reach client ds question None id = body_text (unfit id)
question_body meaning reach client ds question (Some d) id = with_asked meaning reach client ds id (uri_of d) (asked_of question d)

-- the text that is run for an inquiry about a document with this text: none for a report that the client has
abbrev pub inquiry_run : Meaning → PlainInquiry → Option (List ℕ) → Option (List ℕ)
inquiry_run meaning (one query) text = run_by meaning query text
inquiry_run meaning (report known) None = None
inquiry_run meaning (report known) (Some text) = if is_known known text then None else Some text
inquiry_run meaning (selections ps) text = if list_any (λ p. meaning.needs_run (asks.SelectionRange p)) ps then text else None

-- the text that is run for it
abbrev pub asked_run : Meaning → List PlainDocument → Option (List ℕ) → Option PlainInquiry → Option (List ℕ)
asked_run meaning ds None asked = None
asked_run meaning ds (Some uri) None = None
asked_run meaning ds (Some uri) (Some asked) = inquiry_run meaning asked (text_of uri ds)

abbrev pub question_run : Meaning → List PlainDocument → Question → Option Data → Option (List ℕ)
question_run meaning ds question None = None
question_run meaning ds question (Some d) = asked_run meaning ds (uri_of d) (asked_of question d)

-- the text of the document that is named, if it is open
abbrev pub named_text : Option Data → List PlainDocument → Option (List ℕ)
named_text None ds = None
named_text (Some d) ds = option_and_then (λ uri. text_of uri ds) (uri_of d)
