-- Requests that their client has cancelled. (LSP 3.17, "Cancellation Support".)
use Rattle.std.specs.Prelude.{◌≡◌, ℕ, ◌-◌, ◌<◌, Bool, true, false, if◌then◌else◌, List, Option, Some, None, codes, IsUtf8}
use Rattle.std.specs.Str.{bytes_eq}
use Rattle.serde_json.specs.Data.{Data}
use Rattle.serde_json.specs.Find.{get}
use Rattle.serde_json.specs.Read.{read}
use Rattle.serde_json.specs.Written.{compact_text}
use Rattle.rb_lsp.specs.declared.rpc.limits.TheConstants.{MAX_WAITING}
use Rattle.rb_lsp.specs.Messages.{IsMessage}
use Rattle.rb_lsp.specs.Said.{Said, is_id, notification, said}
use Rattle.rb_lsp.specs.declared.server.reach.Reach.{Reach}
use Rattle.rb_lsp.specs.declared.server.reach.Reach.TheVariants.{Cancelled, NoMemory}

-- a value, if it can be the id of a request
abbrev pub if_id : Option Data → Option Data
if_id None = None
if_id (Some id) = if is_id id then Some id else None

-- the id of the request that a message cancels
abbrev pub cancelled_id : Said → Option Data
cancelled_id (notification method (Some params)) = if bytes_eq method (codes "$/cancelRequest") then if_id (get (codes "id") params) else None
cancelled_id what = None

-- whether there is an id, and it has this text
abbrev pub has_text : List ℕ → Option Data → Bool
has_text id None = false
has_text id (Some named) = bytes_eq (compact_text named) id

-- the body cancels the request whose id has this text
pub record Cancels (id body : List ℕ) : Type 0 where
  pub message : Data
  pub text : IsUtf8 body
  pub read_is : read body ≡ Some message
  pub same : has_text id (cancelled_id (said message)) ≡ true

-- one of the first n messages at the front of the bytes cancels it
pub data CancelWaits (id : List ℕ) : ℕ → List ℕ → Type 0 where
  now : (n : ℕ) (bytes body rest : List ℕ) → 0 < n → IsMessage bytes body rest → Cancels id body → CancelWaits id n bytes
  later : (n : ℕ) (bytes body rest : List ℕ) → 0 < n → IsMessage bytes body rest → CancelWaits id (n - 1) rest → CancelWaits id n bytes

-- one of the next messages cancels the request with this id
abbrev pub IsCancelled : Data → List ℕ → Type 0
IsCancelled id next = CancelWaits (compact_text id) MAX_WAITING next

-- how far a cancelled request is done: it isn't, and memory may have been refused before that was known
abbrev pub undone : Reach → Reach
undone NoMemory = NoMemory
undone reach = Cancelled
