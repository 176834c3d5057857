-- What goes out of a conversation. (This project's.)
use Rattle.std.specs.Prelude.{◌≡◌, ℕ, List, ◌++◌, Option, Some, None, IfSome}
use Rattle.std.specs.Io.KnownBytes.{Appends}
use Rattle.rb_script.specs.Writes.{AppendsFront}
use Rattle.rb_lsp.specs.Messages.{IsMessage}
use Rattle.serde_json.specs.Data.{Data}
use Rattle.rb_lsp.specs.Said.{Said, request}
use Rattle.rb_lsp.specs.Cancels.{IsCancelled, undone}
use Rattle.rb_lsp.specs.Reaches.{MayReach}
use Rattle.rb_lsp.specs.declared.server.phase.ExitStatus.{ExitStatus}
use Rattle.rb_lsp.specs.declared.server.reach.Reach.{Reach}
use Rattle.rb_lsp.specs.Meanings.{Meaning}
use Rattle.rb_lsp.specs.Replies.{PlainServer, Turned, On, Over, fresh}
use Rattle.rb_lsp.specs.Talk.{Hears, told, goes, Begins, Ends, Talks, MayAnswer, MayCome}

-- the state of a server that has not ended
abbrev pub turned_of : Option ExitStatus → PlainServer → Turned
turned_of None server = On server
turned_of (Some status) server = Over status

-- ---- one message, which others follow that were read

-- what goes out for a request that one of the messages cancels that were read after it: that it was cancelled, or that memory was refused
pub record Heeds (meaning : Meaning) (server : PlainServer) (heard : Option Said) (seen : List ℕ) (reach : Reach) (out : List ℕ) : Type 0 where
  pub out_is : (id : Data) (method : List ℕ) (params : Option Data) → heard ≡ Some (request id method params) → IsCancelled id seen → out ≡ told meaning (undone reach) server heard

-- What it has to have goes out, as far as that was done. Of the bytes that follow it some were read already; looking at these takes none away.
pub record Tells (meaning : Meaning) (server : PlainServer) (heard : Option Said) (seen next : List ℕ) (old new : Option (List ℕ)) : Type 0 where
  pub reach : Reach
  pub may : MayReach meaning server heard reach next
  pub heeds : Heeds meaning server heard seen reach (told meaning reach server heard)
  pub wrote : Appends old new (told meaning reach server heard)

pub record Responds (meaning : Meaning) (server : PlainServer) (body seen : List ℕ) (turned : Turned) (old new : Option (List ℕ)) : Type 0 where
  pub heard : Option Said
  pub hears : Hears body heard
  pub turned_is : turned ≡ goes server heard
  pub tells : Tells meaning server heard seen seen old new

-- a beginning of it was written
pub record StartsTelling (meaning : Meaning) (server : PlainServer) (heard : Option Said) (next : List ℕ) (old new : Option (List ℕ)) : Type 0 where
  pub reach : Reach
  pub may : MayReach meaning server heard reach next
  pub wrote : AppendsFront old new (told meaning reach server heard)

pub record StartsAnswer (meaning : Meaning) (server : PlainServer) (body next : List ℕ) (old new : Option (List ℕ)) : Type 0 where
  pub text : List ℕ
  pub may : MayAnswer meaning server body next text
  pub wrote : AppendsFront old new text

-- ---- one step

-- the first message of the known bytes is answered, by what was read after it, and the server continues
pub record Takes (meaning : Meaning) (server next : PlainServer) (seen all : List ℕ) (left old new : Option (List ℕ)) : Type 0 where
  pub body : List ℕ
  pub rest : List ℕ
  pub heard : Option Said
  pub left_is : left ≡ Some rest
  pub message : IsMessage all body rest
  pub hears : Hears body heard
  pub next_is : goes server heard ≡ On next
  pub tells : Tells meaning server heard seen rest old new

-- the end of a conversation goes out
pub record GoesOut (meaning : Meaning) (server : PlainServer) (all : List ℕ) (status : ExitStatus) (old new : Option (List ℕ)) : Type 0 where
  pub text : List ℕ
  pub ends : Ends meaning server all status text
  pub wrote : Appends old new text

-- what one more message comes to
abbrev pub TurnsOut : Meaning → PlainServer → Turned → List ℕ → Option (List ℕ) → Option (List ℕ) → Option (List ℕ) → Option (List ℕ) → Type 0
TurnsOut meaning server (On next) seen before left old new = IfSome before (λ all. Takes meaning server next seen all left old new)
TurnsOut meaning server (Over status) seen before left old new = IfSome before (λ all. GoesOut meaning server all status old new)

-- a beginning of what the next message has to have was written
pub record Starts (meaning : Meaning) (server : PlainServer) (all : List ℕ) (old new : Option (List ℕ)) : Type 0 where
  pub text : List ℕ
  pub may : MayCome meaning server all text
  pub wrote : AppendsFront old new text

abbrev pub TurnBreaks : Meaning → PlainServer → Option (List ℕ) → Option (List ℕ) → Option (List ℕ) → Type 0
TurnBreaks meaning server before old new = IfSome before (λ all. Starts meaning server all old new)

-- ---- all

pub record TalksOut (meaning : Meaning) (all : List ℕ) (status : ExitStatus) (old new : Option (List ℕ)) : Type 0 where
  pub reaches : List Reach
  pub text : List ℕ
  pub talks : Talks meaning all reaches status text
  pub wrote : Appends old new text

-- the whole conversation over the bytes that come in goes out
abbrev pub Served : Meaning → Option (List ℕ) → ExitStatus → Option (List ℕ) → Option (List ℕ) → Type 0
Served meaning before status old new = IfSome before (λ all. TalksOut meaning all status old new)

-- a beginning of it: what some messages have to have, and a beginning of that for the next
pub record StartsOut (meaning : Meaning) (all : List ℕ) (old new : Option (List ℕ)) : Type 0 where
  pub reaches : List Reach
  pub last : PlainServer
  pub left : List ℕ
  pub answers : List ℕ
  pub next : List ℕ
  pub begins : Begins meaning fresh all reaches last left answers
  pub may : MayCome meaning last left next
  pub wrote : AppendsFront old new (answers ++ next)

abbrev pub BreaksOff : Meaning → Option (List ℕ) → Option (List ℕ) → Option (List ℕ) → Type 0
BreaksOff meaning before old new = IfSome before (λ all. StartsOut meaning all old new)
