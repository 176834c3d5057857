-- Statements about all answers, notifications and conversations.
use Rattle.std.specs.Prelude.{◌≡◌, ◌⊎◌, ℕ, Bool, true, false, List, [], ◌++◌, Option, Some, None, codes, option_map}
use Rattle.serde_json.specs.Data.{Data}
use Rattle.serde_json.specs.Written.{compact_text}
use Rattle.rb_lsp.specs.Messages.{frame}
use Rattle.rb_lsp.specs.Said.{Said, request, notification, response}
use Rattle.rb_lsp.specs.Answers.{success, failure}
use Rattle.rb_lsp.specs.declared.rpc.answer.ErrorCode.{ErrorCode}
use Rattle.rb_lsp.specs.declared.server.phase.Phase.TheVariants.{Running}
use Rattle.rb_lsp.specs.declared.server.phase.ExitStatus.{ExitStatus}
use Rattle.rb_lsp.specs.declared.server.phase.ExitStatus.TheVariants.{CutOff, NoMessage}
use Rattle.rb_lsp.specs.declared.server.method.Method.{Method}
use Rattle.rb_lsp.specs.declared.server.method.Method.TheVariants.{Asks}
use Rattle.rb_lsp.specs.declared.server.method.Question.{Question}
use Rattle.rb_lsp.specs.declared.document.position.Position.{Position}
use Rattle.rb_lsp.specs.declared.server.query.Query.{Query}
use Rattle.rb_lsp.specs.declared.server.client.Client.{Client}
use Rattle.rb_lsp.specs.Documents.{PlainDocument, text_of}
use Rattle.rb_lsp.specs.declared.server.stop.Stop.{Stop}
use Rattle.rb_lsp.specs.declared.server.reach.Reach.{Reach}
use Rattle.rb_lsp.specs.declared.server.reach.Reach.TheVariants.{Whole, Stopped, Cancelled, NoMemory}
use Rattle.rb_lsp.specs.Meanings.{Meaning}
use Rattle.rb_lsp.specs.Methods.{method_of}
use Rattle.rb_lsp.specs.Inquiries.{one, report, selections}
use Rattle.rb_lsp.specs.Questions.{answer_text, asked_of, body_text, cancelled_for, each_selection, named_text, no_memory_for, report_answer, stopped_for, uri_of}
use Rattle.rb_lsp.specs.Notices.{Notice, framed, is_crowded, list_publication, list_text, no_memory_list, notice_of, stale_text, stale_versions, told_version}
use Rattle.rb_lsp.specs.Replies.{PlainServer, On, reply, told_of, turned_by}
use Rattle.rb_lsp.specs.Talk.{Talks}

-- An answer to the request of this method with this id: a result, an error, or the result about the current text of the document that the request
-- names, the report of its diagnostics as far as it was run, or a list of results, one a position.
pub data Answers (meaning : Meaning) (server : PlainServer) (method : Method) (params : Option Data) : Data → List ℕ → Type 0 where
  done : (id result : Data) → Answers meaning server method params id (body_text (success id result))
  refused : (id : Data) (code : ErrorCode) (message : List ℕ) → Answers meaning server method params id (body_text (failure id code message))
  answered : (id given : Data) (client : Client) (question : Question) (asked : Query) (uri text : List ℕ) → server.phase ≡ Running client → method ≡ Asks question → params ≡ Some given
      → uri_of given ≡ Some uri → asked_of question given ≡ Some (one asked) → text_of uri server.documents ≡ Some text
      → Answers meaning server method params id (answer_text id (meaning.answer client asked uri text))
  reported : (id given : Data) (client : Client) (question : Question) (known : Option (List ℕ)) (stop : Option Stop) (uri text : List ℕ) → server.phase ≡ Running client → method ≡ Asks question → params ≡ Some given
      → uri_of given ≡ Some uri → asked_of question given ≡ Some (report known) → text_of uri server.documents ≡ Some text
      → Answers meaning server method params id (report_answer meaning stop client known uri id text)
  selected : (id given : Data) (client : Client) (question : Question) (ps : List Position) (uri text : List ℕ) → server.phase ≡ Running client → method ≡ Asks question → params ≡ Some given
      → uri_of given ≡ Some uri → asked_of question given ≡ Some (selections ps) → text_of uri server.documents ≡ Some text
      → Answers meaning server method params id (answer_text id (codes "[" ++ each_selection meaning client uri text [] ps))

-- each request has one answer
abbrev pub RequestsHaveOneAnswer : Type 0
RequestsHaveOneAnswer = (meaning : Meaning) (reach : Reach) (server : PlainServer) (id : Data) (method : List ℕ) (params : Option Data)
    → (answer : List ℕ) × (reply meaning reach server (request id method params) ≡ Some answer) × Answers meaning server (method_of method) params id answer

-- a notification has no answer, nor has an answer
abbrev pub NotificationsHaveNoAnswer : Type 0
NotificationsHaveNoAnswer = (meaning : Meaning) (reach : Reach) (server : PlainServer)
    → ((method : List ℕ) (params : Option Data) → reply meaning reach server (notification method params) ≡ None) × (reply meaning reach server response ≡ None)

-- whatever was sent before, and whatever else is open: an answer depends on the server's phase, and on the current text of the document that the
-- request names
abbrev pub TextsAreAnswered : Type 0
TextsAreAnswered = (meaning : Meaning) (reach : Reach) (server other : PlainServer) (id : Data) (method : List ℕ) (params : Option Data)
    → server.phase ≡ other.phase → named_text params server.documents ≡ named_text params other.documents
    → told_of meaning reach server (request id method params) ≡ told_of meaning reach other (request id method params)

-- an answer whose result is the text of a value is the answer with that value
abbrev pub ResultsStandInAnswers : Type 0
ResultsStandInAnswers = (id result : Data) → answer_text id (compact_text result) ≡ body_text (success id result)

-- The diagnostics of the document that a notification names, with its URI and the notification's version: those of its current text, as far as it was
-- run, or the one that says that memory was refused. If too many documents are open for it, one diagnostic says so. A client that asks for those of open
-- documents is sent none. A change whose version isn't after the known one is refused with a message.
abbrev pub published_text : Meaning → Reach → Option (ℕ × ℕ) → Notice → List PlainDocument → List PlainDocument → Option (List ℕ)
published_text meaning reach (Some versions) n before ds = Some (stale_text versions.0 versions.1)
published_text meaning reach None n before ds =
    option_map (λ list. list_publication n.uri (told_version n) list) (list_text meaning reach n.client n.uri (is_crowded n before) (text_of n.uri ds))

-- these are sent
pub record Publishes (meaning : Meaning) (reach : Reach) (before : List PlainDocument) (server : PlainServer) (notice : Notice) (text : List ℕ) : Type 0 where
  pub running : server.phase ≡ Running notice.client
  pub text_is : text ≡ framed (published_text meaning reach (stale_versions notice before) notice before server.documents)

-- what is sent for a notification after which the server is this: nothing if it isn't about a document
abbrev pub IsPublished : Meaning → Reach → List PlainDocument → PlainServer → Option Notice → List ℕ → Type 0
IsPublished meaning reach before server None text = text ≡ []
IsPublished meaning reach before server (Some notice) text = Publishes meaning reach before server notice text

-- whatever was sent before, a notification is followed by the diagnostics of its document's current text
abbrev pub TextsAreDiagnosed : Type 0
TextsAreDiagnosed = (meaning : Meaning) (reach : Reach) (server next : PlainServer) (method : List ℕ) (params : Option Data)
    → turned_by server (notification method params) ≡ On next
    → IsPublished meaning reach server.documents next (notice_of server.phase (method_of method) params) (told_of meaning reach server (notification method params))

-- The text says why the server didn't do all that a message asks: for a notification by the diagnostic that memory was refused, or that the run
-- stopped, and for a request by an error with its id, or if it asks for diagnostics, by the one that the run stopped.
pub data TellsRefusal (meaning : Meaning) : Reach → Said → List ℕ → Type 0 where
  of_document : (method : List ℕ) (params : Option Data) (uri : List ℕ) (version : Option ℕ)
      → TellsRefusal meaning NoMemory (notification method params) (frame (list_publication uri version no_memory_list))
  of_request : (id : Data) (method : List ℕ) (params : Option Data) → TellsRefusal meaning NoMemory (request id method params) (frame (body_text (no_memory_for id)))
  stops_document : (stop : Stop) (method : List ℕ) (params : Option Data) (client : Client) (uri : List ℕ) (version : Option ℕ) (text : List ℕ)
      → TellsRefusal meaning (Stopped stop) (notification method params) (frame (list_publication uri version (meaning.diagnose (Some stop) client uri text)))
  stops_request : (stop : Stop) (id : Data) (method : List ℕ) (params : Option Data) → TellsRefusal meaning (Stopped stop) (request id method params) (frame (body_text (stopped_for id)))
  stops_report : (stop : Stop) (id : Data) (method : List ℕ) (params : Option Data) (client : Client) (known : Option (List ℕ)) (uri text : List ℕ)
      → TellsRefusal meaning (Stopped stop) (request id method params) (frame (report_answer meaning (Some stop) client known uri id text))
  cancels : (id : Data) (method : List ℕ) (params : Option Data) → TellsRefusal meaning Cancelled (request id method params) (frame (body_text (cancelled_for id)))

-- if the server doesn't do all that a message asks, it says so, and nothing else changes
abbrev pub RefusalsAreTold : Type 0
RefusalsAreTold = (meaning : Meaning) (reach : Reach) (server : PlainServer) (what : Said)
    → (told_of meaning reach server what ≡ told_of meaning Whole server what) ⊎ TellsRefusal meaning reach what (told_of meaning reach server what)

-- how a conversation ends if bytes are left that no message begins with
abbrev pub is_left : ExitStatus → Bool
is_left CutOff = true
is_left NoMessage = true
is_left status = false

-- The output and the ending depend only on the bytes, and on how far each message was done. If bytes are left that no message begins with, either of
-- two statuses says so, and a program ends with one status for both.
abbrev pub ConversationsAreOne : Type 0
ConversationsAreOne = (meaning : Meaning) (all : List ℕ) (reaches : List Reach) (s t : ExitStatus) (x y : List ℕ) → Talks meaning all reaches s x → Talks meaning all reaches t y
    → (x ≡ y) × ((s ≡ t) ⊎ ((is_left s ≡ true) × (is_left t ≡ true)))
