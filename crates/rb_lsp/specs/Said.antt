-- The meaning of a message. (JSON-RPC 2.0, sections 4 and 5; LSP 3.17, base protocol: an id is an integer or a text.)
use Rattle.std.specs.Prelude.{ℕ, Bool, false, ◌||◌, List, Option, Some, None, codes, if◌then◌else◌, is_some, option_map, option_and_then}
use Rattle.std.specs.Str.{bytes_eq}
use Rattle.serde_json.specs.Data.{Data}
use Rattle.serde_json.specs.Find.{get, as_str, as_number, as_u64, as_i64}
use Rattle.serde_json.specs.View.{view}
use Rattle.rb_lsp.specs.declared.rpc.incoming.Incoming.{Incoming}
use Rattle.rb_lsp.specs.declared.rpc.incoming.Incoming.TheVariants as incomings

pub data Said : Type 0 where
  -- an id, the method, and its parameters
  request : Data → List ℕ → Option Data → Said
  notification : List ℕ → Option Data → Said
  response : Said
  invalid : Said

-- the text of a member
abbrev pub text_at : List ℕ → Data → Option (List ℕ)
text_at key d = option_and_then as_str (get key d)

abbrev pub is_two : Option (List ℕ) → Bool
is_two None = false
is_two (Some version) = bytes_eq version (codes "2.0")

abbrev pub has_version : Data → Bool
has_version d = is_two (text_at (codes "jsonrpc") d)

abbrev pub is_response : Data → Bool
is_response d = is_some (get (codes "result") d) || is_some (get (codes "error") d)

abbrev pub is_id : Data → Bool
is_id d = (is_some (as_str d) || is_some (option_and_then as_u64 (as_number d))) || is_some (option_and_then as_i64 (as_number d))

-- a method, by the id that may be next to it
abbrev pub with_id : List ℕ → Option Data → Option Data → Said
with_id method params None = notification method params
with_id method params (Some id) = if is_id id then request id method params else invalid

-- the members next to the version
abbrev pub with_method : Data → Option (List ℕ) → Said
with_method d None = if is_response d then response else invalid
with_method d (Some method) = with_id method (get (codes "params") d) (get (codes "id") d)

abbrev pub said : Data → Said
said d = if has_version d then with_method d (text_at (codes "method") d) else invalid

-- the result of a function
abbrev pub said_of : Incoming → Said
said_of (incomings.Request id method params) = request (view id.now) method.now (option_map (λ v. view v.now) params)
said_of (incomings.Notification method params) = notification method.now (option_map (λ v. view v.now) params)
said_of incomings.Response = response
said_of incomings.Invalid = invalid
