-- Where what is asked of a text isn't done whole, that is said, and nothing else changes.
use Rattle.std.proofs.Common.{◌≡◌, ◌⊎◌, inl, inr, ℕ, List, Bool, true, false, Option, Some, None, refl}
use Rattle.std.specs.Prelude.{if◌then◌else◌, option_map}
use Rattle.serde_json.specs.Data.{Data}
use Rattle.rb_lsp.specs.Messages.{frame}
use Rattle.rb_lsp.specs.Said.{Said, request, notification}
use Rattle.rb_lsp.specs.declared.server.stop.Stop.{Stop}
use Rattle.rb_lsp.specs.Inquiries.{PlainInquiry, one, report, selections}
use Rattle.rb_lsp.specs.declared.server.client.Client.{Client}
use Rattle.rb_lsp.specs.declared.server.method.Question.{Question}
use Rattle.rb_lsp.specs.declared.server.method.Method.{Method}
use Rattle.rb_lsp.specs.declared.server.method.Method.TheVariants.{Exit, Asks}
use Rattle.rb_lsp.specs.declared.server.phase.Phase.{Phase}
use Rattle.rb_lsp.specs.declared.server.phase.Phase.TheVariants.{Running}
use Rattle.rb_lsp.specs.Methods.{method_of}
use Rattle.rb_lsp.specs.Documents.{PlainDocument, text_of}
use Rattle.rb_lsp.specs.declared.server.reach.Reach.{Reach}
use Rattle.rb_lsp.specs.declared.server.reach.Reach.TheVariants.{Whole, Stopped, Cancelled, NoMemory}
use Rattle.rb_lsp.specs.Meanings.{Meaning}
use Rattle.rb_lsp.specs.Notices.{Notice, framed, is_crowded, list_by, list_publication, notice_body, notice_of, notice_text, publication, stale_versions, told_version}
use Rattle.rb_lsp.specs.Questions.{asked_of, of_text, question_body, stopped_text, uri_of, with_asked}
use Rattle.rb_lsp.specs.Replies.{PlainServer, body_in, published, sent, told_of, with_notice}
use Rattle.rb_lsp.specs.Laws.{TellsRefusal, of_document, of_request, stops_document, stops_report, stops_request, cancels}

-- ---- of a document

listed_told : (meaning : Meaning) (pulls : Bool) (reach : Reach) (method : List ℕ) (params : Option Data) (client : Client) (uri : List ℕ) (version : Option ℕ) (text : List ℕ)
    → (framed (option_map (λ list. list_publication uri version list) (if pulls then None else Some (list_by meaning reach client uri text)))
    ≡ framed (option_map (λ list. list_publication uri version list) (if pulls then None else Some (list_by meaning Whole client uri text))))
    ⊎ TellsRefusal meaning reach (notification method params) (framed (option_map (λ list. list_publication uri version list) (if pulls then None else Some (list_by meaning reach client uri text))))
listed_told meaning true reach method params client uri version text = inl refl
listed_told meaning false NoMemory method params client uri version text = inr (of_document method params uri version)
listed_told meaning false (Stopped stop) method params client uri version text = inr (stops_document stop method params client uri version text)
listed_told meaning false Whole method params client uri version text = inl refl
listed_told meaning false Cancelled method params client uri version text = inl refl

text_told : (meaning : Meaning) (reach : Reach) (method : List ℕ) (params : Option Data) (client : Client) (uri : List ℕ) (version : Option ℕ) (is_crowded : Bool) (text : Option (List ℕ))
    → (framed (publication meaning reach client uri version is_crowded text) ≡ framed (publication meaning Whole client uri version is_crowded text))
    ⊎ TellsRefusal meaning reach (notification method params) (framed (publication meaning reach client uri version is_crowded text))
text_told meaning reach method params client uri version is_crowded None = inl refl
text_told meaning reach method params client uri version is_crowded (Some text) = listed_told meaning client.pulls reach method params client uri version text

body_told : (meaning : Meaning) (reach : Reach) (method : List ℕ) (params : Option Data) (versions : Option (ℕ × ℕ)) (n : Notice) (before ds : List PlainDocument)
    → (framed (notice_body meaning reach versions n before ds) ≡ framed (notice_body meaning Whole versions n before ds))
    ⊎ TellsRefusal meaning reach (notification method params) (framed (notice_body meaning reach versions n before ds))
body_told meaning reach method params (Some versions) n before ds = inl refl
body_told meaning reach method params None n before ds = text_told meaning reach method params n.client n.uri (told_version n) (is_crowded n before) (text_of n.uri ds)

notice_told : (meaning : Meaning) (reach : Reach) (method : List ℕ) (params : Option Data) (notice : Option Notice) (before ds : List PlainDocument)
    → (notice_text meaning reach notice before ds ≡ notice_text meaning Whole notice before ds) ⊎ TellsRefusal meaning reach (notification method params) (notice_text meaning reach notice before ds)
notice_told meaning reach method params None before ds = inl refl
notice_told meaning reach method params (Some n) before ds = body_told meaning reach method params (stale_versions n before) n before ds

notification_told : (meaning : Meaning) (reach : Reach) (server : PlainServer) (name : List ℕ) (method : Method) (params : Option Data)
    → (published meaning reach server method params ≡ published meaning Whole server method params) ⊎ TellsRefusal meaning reach (notification name params) (published meaning reach server method params)
notification_told meaning reach server name Exit params = inl refl
notification_told meaning reach server name method params = notice_told meaning reach name params (notice_of server.phase method params) server.documents (with_notice server method params).documents

-- ---- of a request

abbrev IsTold : Meaning → Reach → Data → List ℕ → Option Data → List ℕ → List ℕ → Type 0
IsTold meaning reach id method params refused known = (frame refused ≡ frame known) ⊎ TellsRefusal meaning reach (request id method params) (frame refused)

stopped_told : (meaning : Meaning) (stop : Stop) (id : Data) (method : List ℕ) (params : Option Data) (client : Client) (asked : PlainInquiry) (uri text : List ℕ)
    → TellsRefusal meaning (Stopped stop) (request id method params) (frame (stopped_text meaning stop client asked uri id text))
stopped_told meaning stop id method params client (one query) uri text = stops_request stop id method params
stopped_told meaning stop id method params client (report known) uri text = stops_report stop id method params client known uri text
stopped_told meaning stop id method params client (selections ps) uri text = stops_request stop id method params

answer_told : (meaning : Meaning) (reach : Reach) (id : Data) (method : List ℕ) (params : Option Data) (client : Client) (asked : PlainInquiry) (uri : List ℕ) (text : Option (List ℕ))
    → IsTold meaning reach id method params (of_text meaning reach client asked uri id text) (of_text meaning Whole client asked uri id text)
answer_told meaning reach id method params client asked uri None = inl refl
answer_told meaning NoMemory id method params client asked uri (Some text) = inr (of_request id method params)
answer_told meaning (Stopped stop) id method params client asked uri (Some text) = inr (stopped_told meaning stop id method params client asked uri text)
answer_told meaning Whole id method params client asked uri (Some text) = inl refl
answer_told meaning Cancelled id method params client asked uri (Some text) = inr (cancels id method params)

asked_told : (meaning : Meaning) (reach : Reach) (id : Data) (method : List ℕ) (params : Option Data) (client : Client) (ds : List PlainDocument) (uri : Option (List ℕ)) (asked : Option PlainInquiry)
    → IsTold meaning reach id method params (with_asked meaning reach client ds id uri asked) (with_asked meaning Whole client ds id uri asked)
asked_told meaning reach id method params client ds (Some uri) (Some asked) = answer_told meaning reach id method params client asked uri (text_of uri ds)
asked_told meaning reach id method params client ds uri asked = inl refl

question_told : (meaning : Meaning) (reach : Reach) (id : Data) (method : List ℕ) (client : Client) (ds : List PlainDocument) (question : Question) (params : Option Data)
    → IsTold meaning reach id method params (question_body meaning reach client ds question params id) (question_body meaning Whole client ds question params id)
question_told meaning reach id method client ds question None = inl refl
question_told meaning reach id method client ds question (Some d) = asked_told meaning reach id method (Some d) client ds (uri_of d) (asked_of question d)

answer_body_told : (meaning : Meaning) (reach : Reach) (id : Data) (name : List ℕ) (ds : List PlainDocument) (phase : Phase) (method : Method) (params : Option Data)
    → IsTold meaning reach id name params (body_in meaning reach ds phase method params id) (body_in meaning Whole ds phase method params id)
answer_body_told meaning reach id name ds (Running client) (Asks question) params = question_told meaning reach id name client ds question params
answer_body_told meaning reach id name ds phase method params = inl refl

pub refusal_told : (meaning : Meaning) (reach : Reach) (server : PlainServer) (what : Said)
    → (told_of meaning reach server what ≡ told_of meaning Whole server what) ⊎ TellsRefusal meaning reach what (told_of meaning reach server what)
unfolding sent
refusal_told meaning reach server (request id method params) = answer_body_told meaning reach id method server.documents server.phase (method_of method) params
refusal_told meaning reach server (notification method params) = notification_told meaning reach server method (method_of method) params
refusal_told meaning reach server what = inl refl
