-- How far a message may be done, by the messages after it and by the text that it runs. (LSP 3.17, "Cancellation Support". The rest is this project's.)
use Rattle.std.specs.Prelude.{◌≡◌, ℕ, true, List, Option, Some}
use Rattle.serde_json.specs.Data.{Data}
use Rattle.rb_lsp.specs.Said.{Said, request}
use Rattle.rb_lsp.specs.Cancels.{IsCancelled}
use Rattle.rb_lsp.specs.declared.server.reach.Reach.{Reach}
use Rattle.rb_lsp.specs.declared.server.reach.Reach.TheVariants.{Cancelled}
use Rattle.rb_lsp.specs.Meanings.{Meaning, can_reach}
use Rattle.rb_lsp.specs.Replies.{PlainServer, run_for}

-- How far a message may be done which these bytes follow.
pub record MayReach (meaning : Meaning) (server : PlainServer) (heard : Option Said) (reach : Reach) (next : List ℕ) : Type 0 where
  -- a request is left undone as cancelled only if one of the next messages cancels it
  pub only : (id : Data) (method : List ℕ) (params : Option Data) → heard ≡ Some (request id method params) → reach ≡ Cancelled → IsCancelled id next
  -- a run stopped only if the message needs it, and only where it may
  pub stops : can_reach meaning (run_for meaning server heard) reach ≡ true
