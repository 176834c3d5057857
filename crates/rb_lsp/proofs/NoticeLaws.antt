-- What goes out for a notification are the diagnostics of a text as it stands.
use Rattle.std.proofs.Common.{◌≡◌, ℕ, List, Bool, true, false, Option, Some, None, ap, refl, subst}
use Rattle.std.specs.Prelude.{codes, if◌then◌else◌}
use Rattle.serde_json.specs.Data.{Data}
use Rattle.rb_lsp.specs.Params.{text_below}
use Rattle.rb_lsp.specs.declared.server.client.Client.{Client}
use Rattle.rb_lsp.specs.declared.server.method.Method.{Method}
use Rattle.rb_lsp.specs.declared.server.method.Method.TheVariants.{Exit}
use Rattle.rb_lsp.specs.declared.server.phase.Phase.{Phase}
use Rattle.rb_lsp.specs.declared.server.phase.Phase.TheVariants.{Running}
use Rattle.rb_lsp.specs.Documents.{PlainDocument}
use Rattle.rb_lsp.specs.Methods.{is_of_documents}
use Rattle.rb_lsp.specs.declared.server.reach.Reach.{Reach}
use Rattle.rb_lsp.specs.Meanings.{Meaning}
use Rattle.rb_lsp.specs.Notices.{Notice, framed, notice_body, notice_of, notice_text, stale_versions, with_uri}
use Rattle.rb_lsp.specs.Replies.{PlainServer, On, noticed_by, published, with_notice}
use Rattle.rb_lsp.specs.Laws.{IsPublished, published_text}

-- a notice is taken where the server runs
abbrev IsOf : Phase → Option Notice → Type 0
IsOf phase None = Unit {0}
IsOf phase (Some n) = phase ≡ Running n.client

uri_is : (client : Client) (method : Method) (d : Data) (uri : Option (List ℕ)) → IsOf (Running client) (with_uri client method d uri)
uri_is client method d None = tt
uri_is client method d (Some uri) = refl

taken_is : (b : Bool) (client : Client) (method : Method) (d : Data) (uri : Option (List ℕ)) → IsOf (Running client) (if b then with_uri client method d uri else None)
taken_is true client method d uri = uri_is client method d uri
taken_is false client method d uri = tt

notice_is : (phase : Phase) (method : Method) (params : Option Data) → IsOf phase (notice_of phase method params)
notice_is (Running client) method (Some d) = taken_is (is_of_documents method) client method d (text_below (codes "textDocument") (codes "uri") d)
notice_is phase method params = tt

body_is : (meaning : Meaning) (reach : Reach) (versions : Option (ℕ × ℕ)) (n : Notice) (before ds : List PlainDocument) → notice_body meaning reach versions n before ds ≡ published_text meaning reach versions n before ds
body_is meaning reach (Some versions) n before ds = refl
body_is meaning reach None n before ds = refl

one_is : (meaning : Meaning) (reach : Reach) (before : List PlainDocument) (next : PlainServer) (notice : Option Notice) → IsOf next.phase notice
    → IsPublished meaning reach before next notice (notice_text meaning reach notice before next.documents)
one_is meaning reach before next None is = refl
one_is meaning reach before next (Some n) is = record { running = is; text_is = ap framed (body_is meaning reach (stale_versions n before) n before next.documents) }

-- a notification that is no `exit`
after_is : (meaning : Meaning) (reach : Reach) (server next : PlainServer) (method : Method) (params : Option Data) → On (with_notice server method params) ≡ On next
    → IsPublished meaning reach server.documents next (notice_of server.phase method params)
    (notice_text meaning reach (notice_of server.phase method params) server.documents (with_notice server method params).documents)
after_is meaning reach server next method params e =
    let is : with_notice server method params ≡ next = cc in
    let notice = notice_of server.phase method params in
    let text = notice_text meaning reach notice server.documents (with_notice server method params).documents in
    subst (λ (s : PlainServer). IsPublished meaning reach server.documents s notice text) is
    (one_is meaning reach server.documents (with_notice server method params) notice (notice_is server.phase method params))

pub diagnosed : (meaning : Meaning) (reach : Reach) (server next : PlainServer) (method : Method) (params : Option Data) → noticed_by server method params ≡ On next
    → IsPublished meaning reach server.documents next (notice_of server.phase method params) (published meaning reach server method params)
diagnosed meaning reach server next Exit params e = absurd cc
diagnosed meaning reach server next method params e = after_is meaning reach server next method params e
