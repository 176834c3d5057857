-- No answer has a float, so each has the text that its definition says.
use Rattle.std.proofs.Common.{◌≡◌, ℕ, List, Bool, true, false, Option, Some, None, refl, sym, subst}
use Rattle.std.specs.Prelude.{codes, if◌then◌else◌, ⊤}
use Rattle.serde_json.specs.Data.{Data, number, array, object, float}
use Rattle.serde_json.specs.Written.{has_float}
use Rattle.serde_json.specs.Find.{get}
use Rattle.rb_lsp.specs.declared.document.position.Encoding.{Encoding}
use Rattle.rb_lsp.specs.declared.document.position.Encoding.TheVariants.{Utf8, Utf16}
use Rattle.rb_lsp.specs.Said.{Said, request, response, invalid, said, is_id, has_version, is_response, text_at, with_id, with_method}
use Rattle.rb_lsp.specs.declared.server.client.Client.{Client}
use Rattle.rb_lsp.specs.declared.server.phase.Phase.{Phase}
use Rattle.rb_lsp.specs.declared.server.phase.Phase.TheVariants.{Fresh, Running}
use Rattle.rb_lsp.specs.declared.server.method.Method.{Method}
use Rattle.rb_lsp.specs.declared.server.method.Method.TheVariants.{Initialize}
use Rattle.rb_lsp.specs.Beginnings.{capabilities, client_of, completes, document_capabilities, initialized, last_capabilities, reports, synchronizes}
use Rattle.rb_lsp.specs.Replies.{answer_to, initialize_answer}

pub id_is_plain : (d : Data) → is_id d ≡ true → has_float d ≡ false
id_is_plain (number (float x)) is = cc
id_is_plain (array ds) is = cc
id_is_plain (object ms) is = cc
id_is_plain d is = refl

-- the id that is answered has no float
abbrev pub IsPlain : Said → Type 0
IsPlain (request id method params) = has_float id ≡ false
IsPlain what = ⊤

chosen : (b : Bool) (id : Data) (method : List ℕ) (params : Option Data) → b ≡ is_id id → IsPlain (if b then request id method params else invalid)
chosen true id method params is = id_is_plain id (sym is)
chosen false id method params is = tt

with_id_is_plain : (method : List ℕ) (params id : Option Data) → IsPlain (with_id method params id)
with_id_is_plain method params None = tt
with_id_is_plain method params (Some id) = chosen (is_id id) id method params refl

no_method : (b : Bool) → IsPlain (if b then response else invalid)
no_method true = tt
no_method false = tt

with_method_is_plain : (d : Data) (method : Option (List ℕ)) → IsPlain (with_method d method)
with_method_is_plain d None = no_method (is_response d)
with_method_is_plain d (Some method) = with_id_is_plain method (get (codes "params") d) (get (codes "id") d)

versioned : (b : Bool) (s : Said) → IsPlain s → IsPlain (if b then s else invalid)
versioned true s plain = plain
versioned false s plain = tt

said_is_plain : (d : Data) → IsPlain (said d)
said_is_plain d = versioned (has_version d) (with_method d (text_at (codes "method") d)) (with_method_is_plain d (text_at (codes "method") d))

initialized_is_plain : (encoding : Encoding) (pulls : Bool) → has_float (initialized encoding pulls) ≡ false
unfolding initialized capabilities completes document_capabilities last_capabilities reports synchronizes
initialized_is_plain Utf8 true = refl
initialized_is_plain Utf8 false = refl
initialized_is_plain Utf16 true = refl
initialized_is_plain Utf16 false = refl

beginning_is_plain : (client : Option Client) (id : Data) → has_float id ≡ false → has_float (initialize_answer client id) ≡ false
beginning_is_plain None id plain = rw plain
beginning_is_plain (Some client) id plain = rw (plain, initialized_is_plain client.encoding client.pulls)

pub answer_is_plain : (phase : Phase) (method : Method) (params : Option Data) (id : Data) → has_float id ≡ false → has_float (answer_to phase method params id) ≡ false
answer_is_plain Fresh Initialize params id plain = beginning_is_plain (client_of params) id plain
answer_is_plain (Running client) Initialize params id plain = rw plain
answer_is_plain phase method params id plain = rw plain

-- the id of a request
pub id_is_plain_of : (d id : Data) (method : List ℕ) (params : Option Data) → request id method params ≡ said d → has_float id ≡ false
id_is_plain_of d id method params is = subst IsPlain (sym is) (said_is_plain d)
