-- Each answer to a request has its id, and is a function of the text of the document that is named.
use Rattle.std.proofs.Common.{◌≡◌, List, ℕ, Option, Some, None, refl, ap, ◌∙◌}
use Rattle.std.specs.Prelude.{codes, option_and_then}
use Rattle.serde_json.specs.Data.{Data, null}
use Rattle.rb_lsp.specs.declared.rpc.answer.ErrorCode.TheVariants.{InvalidRequest, MethodNotFound, InvalidParams, InternalError, ServerNotInitialized, RequestCancelled, RequestFailed}
use Rattle.rb_lsp.specs.declared.server.stop.Stop.{Stop}
use Rattle.rb_lsp.specs.Inquiries.{PlainInquiry, one, report, selections}
use Rattle.rb_lsp.specs.declared.server.client.Client.{Client}
use Rattle.rb_lsp.specs.declared.server.phase.Phase.{Phase}
use Rattle.rb_lsp.specs.declared.server.phase.Phase.TheVariants.{Fresh, Running, Stopped}
use Rattle.rb_lsp.specs.declared.server.method.Question.{Question}
use Rattle.rb_lsp.specs.declared.server.method.Method.{Method}
use Rattle.rb_lsp.specs.declared.server.method.Method.TheVariants.{Initialize, Shutdown, Asks}
use Rattle.rb_lsp.specs.Beginnings.{client_of, initialized}
use Rattle.rb_lsp.specs.Documents.{PlainDocument, text_of}
use Rattle.rb_lsp.specs.declared.server.reach.Reach.{Reach}
use Rattle.rb_lsp.specs.declared.server.reach.Reach.TheVariants.{Whole, Stopped, Cancelled, NoMemory}
use Rattle.rb_lsp.specs.Meanings.{Meaning}
use Rattle.rb_lsp.specs.Questions.{asked_of, body_text, cancelled_for, named_text, no_memory_for, not_open, of_text, question_body, stopped_for, stopped_text, unfit, uri_of, whole_text, with_asked}
use Rattle.rb_lsp.specs.Replies.{PlainServer, answer_body, body_in, initialize_answer}
use Rattle.rb_lsp.specs.Laws.{Answers, done, refused, answered, reported, selected}

-- ---- the id

beginning_answers : (meaning : Meaning) (server : PlainServer) (method : Method) (params : Option Data) (client : Option Client) (id : Data) → Answers meaning server method params id (body_text (initialize_answer client id))
beginning_answers meaning server method params None id = refused id InvalidParams (codes "params is no object")
beginning_answers meaning server method params (Some client) id = done id (initialized client.encoding client.pulls)

unfit_answers : (meaning : Meaning) (server : PlainServer) (method : Method) (params : Option Data) (id : Data) → Answers meaning server method params id (body_text (unfit id))
unfolding unfit
unfit_answers meaning server method params id = refused id InvalidParams (codes "the method takes other params")

no_memory_answers : (meaning : Meaning) (server : PlainServer) (method : Method) (params : Option Data) (id : Data) → Answers meaning server method params id (body_text (no_memory_for id))
unfolding no_memory_for
no_memory_answers meaning server method params id = refused id InternalError (codes "no memory for an answer")

stopped_answers : (meaning : Meaning) (server : PlainServer) (method : Method) (params : Option Data) (id : Data) → Answers meaning server method params id (body_text (stopped_for id))
unfolding stopped_for
stopped_answers meaning server method params id = refused id RequestFailed (codes "the run of this script was stopped")

cancelled_answers : (meaning : Meaning) (server : PlainServer) (method : Method) (params : Option Data) (id : Data) → Answers meaning server method params id (body_text (cancelled_for id))
unfolding cancelled_for
cancelled_answers meaning server method params id = refused id RequestCancelled (codes "the request was cancelled")

whole_answers : (meaning : Meaning) (server : PlainServer) (client : Client) (question : Question) (asked : PlainInquiry) (given : Data) (uri : List ℕ) (id : Data) (text : List ℕ)
    → server.phase ≡ Running client → uri_of given ≡ Some uri → asked_of question given ≡ Some asked → text_of uri server.documents ≡ Some text
    → Answers meaning server (Asks question) (Some given) id (whole_text meaning client asked uri id text)
whole_answers meaning server client question (one query) given uri id text running named asks is = answered id given client question query uri text running refl refl named asks is
whole_answers meaning server client question (report known) given uri id text running named asks is = reported id given client question known None uri text running refl refl named asks is
whole_answers meaning server client question (selections ps) given uri id text running named asks is = selected id given client question ps uri text running refl refl named asks is

-- a text whose run stopped
stop_answers : (meaning : Meaning) (stop : Stop) (server : PlainServer) (client : Client) (question : Question) (asked : PlainInquiry) (given : Data) (uri : List ℕ) (id : Data) (text : List ℕ)
    → server.phase ≡ Running client → uri_of given ≡ Some uri → asked_of question given ≡ Some asked → text_of uri server.documents ≡ Some text
    → Answers meaning server (Asks question) (Some given) id (stopped_text meaning stop client asked uri id text)
stop_answers meaning stop server client question (one query) given uri id text running named asks is = stopped_answers meaning server (Asks question) (Some given) id
stop_answers meaning stop server client question (report known) given uri id text running named asks is = reported id given client question known (Some stop) uri text running refl refl named asks is
stop_answers meaning stop server client question (selections ps) given uri id text running named asks is = stopped_answers meaning server (Asks question) (Some given) id

text_answers : (meaning : Meaning) (reach : Reach) (server : PlainServer) (client : Client) (question : Question) (asked : PlainInquiry) (given : Data) (uri : List ℕ) (id : Data) (text : Option (List ℕ))
    → server.phase ≡ Running client → uri_of given ≡ Some uri → asked_of question given ≡ Some asked → text_of uri server.documents ≡ text
    → Answers meaning server (Asks question) (Some given) id (of_text meaning reach client asked uri id text)
unfolding not_open
text_answers meaning reach server client question asked given uri id None running named asks is = refused id InvalidParams (codes "the document isn't open")
text_answers meaning NoMemory server client question asked given uri id (Some text) running named asks is = no_memory_answers meaning server (Asks question) (Some given) id
text_answers meaning (Stopped stop) server client question asked given uri id (Some text) running named asks is = stop_answers meaning stop server client question asked given uri id text running named asks is
text_answers meaning Whole server client question asked given uri id (Some text) running named asks is = whole_answers meaning server client question asked given uri id text running named asks is
text_answers meaning Cancelled server client question asked given uri id (Some text) running named asks is = cancelled_answers meaning server (Asks question) (Some given) id

asked_answers : (meaning : Meaning) (reach : Reach) (server : PlainServer) (client : Client) (question : Question) (given : Data) (id : Data) (uri : Option (List ℕ)) (asked : Option PlainInquiry)
    → server.phase ≡ Running client → uri_of given ≡ uri → asked_of question given ≡ asked
    → Answers meaning server (Asks question) (Some given) id (with_asked meaning reach client server.documents id uri asked)
asked_answers meaning reach server client question given id (Some uri) (Some asked) running named asks =
    text_answers meaning reach server client question asked given uri id (text_of uri server.documents) running named asks refl
asked_answers meaning reach server client question given id uri asked running named asks = unfit_answers meaning server (Asks question) (Some given) id

question_answers : (meaning : Meaning) (reach : Reach) (server : PlainServer) (client : Client) (question : Question) (params : Option Data) (id : Data) → server.phase ≡ Running client
    → Answers meaning server (Asks question) params id (question_body meaning reach client server.documents question params id)
question_answers meaning reach server client question None id running = unfit_answers meaning server (Asks question) None id
question_answers meaning reach server client question (Some d) id running = asked_answers meaning reach server client question d id (uri_of d) (asked_of question d) running refl refl

body_has_id : (meaning : Meaning) (reach : Reach) (server : PlainServer) (phase : Phase) (method : Method) (params : Option Data) (id : Data) → server.phase ≡ phase
    → Answers meaning server method params id (body_in meaning reach server.documents phase method params id)
body_has_id meaning reach server Fresh Initialize params id is = beginning_answers meaning server Initialize params (client_of params) id
body_has_id meaning reach server Fresh method params id is = refused id ServerNotInitialized (codes "initialize comes first")
body_has_id meaning reach server (Running client) Initialize params id is = refused id InvalidRequest (codes "initialize came before")
body_has_id meaning reach server (Running client) Shutdown params id is = done id null
body_has_id meaning reach server (Running client) (Asks question) params id is = question_answers meaning reach server client question params id is
body_has_id meaning reach server (Running client) method params id is = refused id MethodNotFound (codes "there is no such method")
body_has_id meaning reach server Stopped method params id is = refused id InvalidRequest (codes "shutdown came before")

pub answer_has_id : (meaning : Meaning) (reach : Reach) (server : PlainServer) (method : Method) (params : Option Data) (id : Data) → Answers meaning server method params id (answer_body meaning reach server method params id)
answer_has_id meaning reach server method params id = body_has_id meaning reach server server.phase method params id refl

-- ---- the text that is named

same_asked : (meaning : Meaning) (reach : Reach) (client : Client) (ds es : List PlainDocument) (id : Data) (uri : Option (List ℕ)) (asked : Option PlainInquiry)
    → option_and_then (λ (u : List ℕ). text_of u ds) uri ≡ option_and_then (λ (u : List ℕ). text_of u es) uri → with_asked meaning reach client ds id uri asked ≡ with_asked meaning reach client es id uri asked
same_asked meaning reach client ds es id (Some uri) (Some asked) same = ap (of_text meaning reach client asked uri id) same
same_asked meaning reach client ds es id uri asked same = refl

same_question : (meaning : Meaning) (reach : Reach) (client : Client) (ds es : List PlainDocument) (question : Question) (params : Option Data) (id : Data)
    → named_text params ds ≡ named_text params es → question_body meaning reach client ds question params id ≡ question_body meaning reach client es question params id
same_question meaning reach client ds es question None id same = refl
same_question meaning reach client ds es question (Some d) id same = same_asked meaning reach client ds es id (uri_of d) (asked_of question d) same

same_body : (meaning : Meaning) (reach : Reach) (ds es : List PlainDocument) (phase : Phase) (method : Method) (params : Option Data) (id : Data)
    → named_text params ds ≡ named_text params es → body_in meaning reach ds phase method params id ≡ body_in meaning reach es phase method params id
same_body meaning reach ds es (Running client) (Asks question) params id same = same_question meaning reach client ds es question params id same
same_body meaning reach ds es phase method params id same = refl

pub same_answer : (meaning : Meaning) (reach : Reach) (server other : PlainServer) (method : Method) (params : Option Data) (id : Data) → server.phase ≡ other.phase
    → named_text params server.documents ≡ named_text params other.documents → answer_body meaning reach server method params id ≡ answer_body meaning reach other method params id
same_answer meaning reach server other method params id phase same =
    ap (λ (p : Phase). body_in meaning reach server.documents p method params id) phase ∙ same_body meaning reach server.documents other.documents other.phase method params id same
