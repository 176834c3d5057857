-- A server's conversation: messages, each with its answer or what it has published, up to its end. (LSP 3.17, "Server lifecycle".)
use Rattle.std.specs.Prelude.{◌≡◌, ◌≢◌, ℕ, List, [], ◌∷◌, ◌++◌, Option, Some, None, IsUtf8}
use Rattle.serde_json.specs.Data.{Data}
use Rattle.serde_json.specs.Read.{read}
use Rattle.rb_lsp.specs.Messages.{IsMessage, HasNoMessage, NeverHasMessage}
use Rattle.rb_lsp.specs.Said.{Said, said}
use Rattle.rb_lsp.specs.Reaches.{MayReach}
use Rattle.rb_lsp.specs.declared.server.phase.ExitStatus.{ExitStatus}
use Rattle.rb_lsp.specs.declared.server.phase.ExitStatus.TheVariants.{Closed, CutOff, NoMessage}
use Rattle.rb_lsp.specs.declared.server.reach.Reach.{Reach}
use Rattle.rb_lsp.specs.declared.server.reach.Reach.TheVariants.{Whole}
use Rattle.rb_lsp.specs.Meanings.{Meaning}
use Rattle.rb_lsp.specs.Questions.{body_text}
use Rattle.rb_lsp.specs.Replies.{PlainServer, Turned, On, Over, fresh, no_json, sent, told_of, turned_by}

-- the meaning of a body, if it is JSON
abbrev pub Hears : List ℕ → Option Said → Type 0
Hears body (Some what) = (d : Data) × IsUtf8 body × (read body ≡ Some d) × (what ≡ said d)
Hears body None = IsUtf8 body → read body ≡ None

-- what goes out, as far as what is asked of a text is done
abbrev pub told : Meaning → Reach → PlainServer → Option Said → List ℕ
told meaning reach server None = sent (Some (body_text no_json))
told meaning reach server (Some what) = told_of meaning reach server what

-- the server's state after that, or how it ends
abbrev pub goes : PlainServer → Option Said → Turned
goes server None = On server
goes server (Some what) = turned_by server what

-- A conversation begins: how far what each message asks was done, where the server is after them, which bytes are left, and what was written. A
-- request is left undone as cancelled only if one of the messages after it cancels it, and as stopped only if it needs a run that may stop.
pub data Begins (meaning : Meaning) : PlainServer → List ℕ → List Reach → PlainServer → List ℕ → List ℕ → Type 0 where
  stands : (server : PlainServer) (all : List ℕ) → Begins meaning server all [] server all []
  goes_on : (server next last : PlainServer) (all body rest left text : List ℕ) (heard : Option Said) (reach : Reach) (reaches : List Reach)
      → IsMessage all body rest → Hears body heard → goes server heard ≡ On next → MayReach meaning server heard reach rest → Begins meaning next rest reaches last left text
      → Begins meaning server all (reach ∷ reaches) last left (told meaning reach server heard ++ text)

-- How it ends, and what still goes out.
pub data Ends (meaning : Meaning) : PlainServer → List ℕ → ExitStatus → List ℕ → Type 0 where
  -- a message tells the server to end, which asks nothing of a text
  exits : (server : PlainServer) (status : ExitStatus) (all body rest : List ℕ) (heard : Option Said) → IsMessage all body rest → Hears body heard
      → goes server heard ≡ Over status → Ends meaning server all status (told meaning Whole server heard)
  -- nothing is left
  closes : (server : PlainServer) (all : List ℕ) → all ≡ [] → Ends meaning server all Closed []
  -- no message is left
  cuts_off : (server : PlainServer) (all : List ℕ) → HasNoMessage all → all ≢ [] → Ends meaning server all CutOff []
  -- nor would more bytes make one
  strays : (server : PlainServer) (all : List ℕ) → NeverHasMessage all → Ends meaning server all NoMessage []

-- The whole conversation over bytes: how far what each message asks was done, how it ends, and what is written.
pub record Talks (meaning : Meaning) (all : List ℕ) (reaches : List Reach) (status : ExitStatus) (text : List ℕ) : Type 0 where
  pub last : PlainServer
  pub left : List ℕ
  pub answers : List ℕ
  pub ending : List ℕ
  pub begins : Begins meaning fresh all reaches last left answers
  pub ends : Ends meaning last left status ending
  pub text_is : text ≡ answers ++ ending

-- What may be written for a body, which these bytes follow, if a call fails.
pub data MayAnswer (meaning : Meaning) : PlainServer → List ℕ → List ℕ → List ℕ → Type 0 where
  nothing : (server : PlainServer) (body next : List ℕ) → MayAnswer meaning server body next []
  answer : (server : PlainServer) (body next : List ℕ) (heard : Option Said) (reach : Reach) → Hears body heard → MayReach meaning server heard reach next
      → MayAnswer meaning server body next (told meaning reach server heard)

-- And for the next message.
pub data MayCome (meaning : Meaning) : PlainServer → List ℕ → List ℕ → Type 0 where
  waits : (server : PlainServer) (all : List ℕ) → MayCome meaning server all []
  comes : (server : PlainServer) (all body rest text : List ℕ) → IsMessage all body rest → MayAnswer meaning server body rest text → MayCome meaning server all text
