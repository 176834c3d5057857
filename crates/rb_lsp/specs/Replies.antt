-- What a server answers and publishes, and where it is after that. (LSP 3.17, "Server lifecycle"; JSON-RPC 2.0, section 5.1. The
-- sentences are this project's.)
use Rattle.std.specs.Prelude.{ℕ, List, [], Option, Some, None, codes}
use Rattle.serde_json.specs.Data.{Data, null}
use Rattle.rb_lsp.specs.Messages.{frame}
use Rattle.rb_lsp.specs.Said.{Said, request, notification, response, invalid}
use Rattle.rb_lsp.specs.Answers.{success, failure}
use Rattle.rb_lsp.specs.declared.rpc.answer.ErrorCode.TheVariants.{ParseError, InvalidRequest, MethodNotFound, InvalidParams, ServerNotInitialized}
use Rattle.rb_lsp.specs.Methods.{method_of}
use Rattle.rb_lsp.specs.Beginnings.{client_of, initialized}
use Rattle.rb_lsp.specs.declared.server.client.Client.{Client}
use Rattle.rb_lsp.specs.declared.server.method.Method.{Method}
use Rattle.rb_lsp.specs.declared.server.method.Method.TheVariants.{Initialize, Shutdown, Exit, Asks}
use Rattle.rb_lsp.specs.declared.server.phase.Phase.{Phase}
use Rattle.rb_lsp.specs.declared.server.phase.Phase.TheVariants.{Fresh, Running, Stopped}
use Rattle.rb_lsp.specs.declared.server.phase.ExitStatus.{ExitStatus}
use Rattle.rb_lsp.specs.declared.server.phase.ExitStatus.TheVariants.{Done, Exited}
use Rattle.rb_lsp.specs.Documents.{PlainDocument}
use Rattle.rb_lsp.specs.declared.server.reach.Reach.{Reach}
use Rattle.rb_lsp.specs.Meanings.{Meaning}
use Rattle.rb_lsp.specs.Questions.{body_text, question_body, question_run}
use Rattle.rb_lsp.specs.Notices.{documents_after, notice_of, notice_run, notice_text}

-- the state of a server
pub record PlainServer : Type 0 where
  pub phase : Phase
  pub documents : List PlainDocument

-- ---- the answer to a request of no document

abbrev pub initialize_answer : Option Client → Data → Data
initialize_answer (Some client) id = success id (initialized client.encoding client.pulls)
initialize_answer None id = failure id InvalidParams (codes "params is no object")

-- before `initialize`
abbrev pub fresh_answer : Method → Option Data → Data → Data
fresh_answer Initialize params id = initialize_answer (client_of params) id
fresh_answer method params id = failure id ServerNotInitialized (codes "initialize comes first")

-- between `initialize` and `shutdown`
abbrev pub running_answer : Method → Data → Data
running_answer Shutdown id = success id null
running_answer Initialize id = failure id InvalidRequest (codes "initialize came before")
running_answer method id = failure id MethodNotFound (codes "there is no such method")

abbrev pub answer_to : Phase → Method → Option Data → Data → Data
answer_to Fresh method params id = fresh_answer method params id
answer_to (Running client) method params id = running_answer method id
answer_to Stopped method params id = failure id InvalidRequest (codes "shutdown came before")

-- ---- the answer to a message

-- to JSON that is no message, whose id isn't known
unfoldable pub no_message : Data
no_message = failure null InvalidRequest (codes "this is no message")

-- the answer to what isn't JSON
unfoldable pub no_json : Data
no_json = failure null ParseError (codes "this is no JSON")

-- to a request: of a document, between `initialize` and `shutdown`, or of none
abbrev pub body_in : Meaning → Reach → List PlainDocument → Phase → Method → Option Data → Data → List ℕ
body_in meaning reach ds (Running client) (Asks question) params id = question_body meaning reach client ds question params id
body_in meaning reach ds phase method params id = body_text (answer_to phase method params id)

abbrev pub answer_body : Meaning → Reach → PlainServer → Method → Option Data → Data → List ℕ
answer_body meaning reach server method params id = body_in meaning reach server.documents server.phase method params id

-- to a request one answer, to a notification none
abbrev pub reply : Meaning → Reach → PlainServer → Said → Option (List ℕ)
reply meaning reach server (request id method params) = Some (answer_body meaning reach server (method_of method) params id)
reply meaning reach server (notification method params) = None
reply meaning reach server response = None
reply meaning reach server invalid = Some (body_text no_message)

-- what goes out
unfoldable pub sent : Option (List ℕ) → List ℕ
sent None = []
sent (Some body) = frame body

-- ---- the server's state after a message

-- after `initialize`
abbrev pub started : Option Client → Phase
started (Some client) = Running client
started None = Fresh

-- after a request
abbrev pub after : Phase → Method → Option Data → Phase
after Fresh Initialize params = started (client_of params)
after Fresh method params = Fresh
after (Running client) Shutdown params = Stopped
after (Running client) method params = Running client
after Stopped method params = Stopped

-- how it ends at `exit`
abbrev pub status_of : Phase → ExitStatus
status_of Stopped = Done
status_of phase = Exited

-- a server at its start
abbrev pub fresh : PlainServer
fresh = record { phase = Fresh; documents = [] }

-- the state after a message, or the end
pub data Turned : Type 0 where
  On : PlainServer → Turned
  Over : ExitStatus → Turned

abbrev pub with_phase : PlainServer → Phase → PlainServer
with_phase server phase = record { phase = phase; documents = server.documents }

abbrev pub with_notice : PlainServer → Method → Option Data → PlainServer
with_notice server method params =
    record { phase = server.phase; documents = documents_after (notice_of server.phase method params) server.documents }

-- after a notification
abbrev pub noticed_by : PlainServer → Method → Option Data → Turned
noticed_by server Exit params = Over (status_of server.phase)
noticed_by server method params = On (with_notice server method params)

abbrev pub turned_by : PlainServer → Said → Turned
turned_by server (request id method params) = On (with_phase server (after server.phase (method_of method) params))
turned_by server (notification method params) = noticed_by server (method_of method) params
turned_by server response = On server
turned_by server invalid = On server

-- ---- what goes out

-- of a notification: what it makes of a document is published
abbrev pub published : Meaning → Reach → PlainServer → Method → Option Data → List ℕ
published meaning reach server Exit params = []
published meaning reach server method params =
    notice_text meaning reach (notice_of server.phase method params) server.documents (with_notice server method params).documents

-- Of any message, as far as what it asks of a text is done. Where the server stands then is the same.
abbrev pub told_of : Meaning → Reach → PlainServer → Said → List ℕ
told_of meaning reach server (notification method params) = published meaning reach server (method_of method) params
told_of meaning reach server what = sent (reply meaning reach server what)

-- ---- what is run

-- the text that is run for a request
abbrev pub request_run : Meaning → List PlainDocument → Phase → Method → Option Data → Option (List ℕ)
request_run meaning ds (Running client) (Asks question) params = question_run meaning ds question params
request_run meaning ds phase method params = None

-- and for a notification
abbrev pub published_run : PlainServer → Method → Option Data → Option (List ℕ)
published_run server Exit params = None
published_run server method params = notice_run (notice_of server.phase method params) server.documents (with_notice server method params).documents

-- and for any message, or what isn't JSON
abbrev pub run_for : Meaning → PlainServer → Option Said → Option (List ℕ)
run_for meaning server (Some (request id method params)) = request_run meaning server.documents server.phase (method_of method) params
run_for meaning server (Some (notification method params)) = published_run server (method_of method) params
run_for meaning server heard = None
