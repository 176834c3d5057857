-- What comes to a cluster's nodes is what may come to a network's: each message was put out by a node; or it gives and asks for no vote, keeps the
-- configuration and is no append
use Rattle.std.proofs.Common.{◌≡◌, ◌⊎◌, ℕ, ◌+◌, true, List, refl, inl, inr}
use Rattle.std.specs.Prelude.{Contains}
use Rattle.rb_message.specs.declared.kind.MessageKind.TheVariants as kind
use Rattle.rb_message.specs.declared.message.Message.{Message}
use Rattle.rb_node.specs.Node.{PlainNode}
use Rattle.rb_node.specs.Sends.{snapshot_of}
use Rattle.rb_calls.specs.Calling.{Call, Step, Propose}
use Rattle.rb_laws.specs.Honesty.{Keeps, IsHonestCall, IsNoAppend, IsGenuineCall}
use Rattle.rb_laws.specs.Network.{Network}
use Rattle.rb_laws.specs.Restarts.{IsVoteRequest, IsAskedCall}
use Rattle.rb_laws.proofs.DirectiveLaws.{IsBrought}
use Rattle.rb_laws.proofs.Holding.{Setting}

abbrev pub IsComing : Setting → Network → Message → Type 0
IsComing g s m = Contains s.said m ⊎ ((m.kind ≡ kind.VoteResponse true → ⊥) × Keeps g.config m × IsNoAppend m.kind × (IsVoteRequest m.kind → ⊥))

-- what a call brings is honest, and its append and its request for votes are genuine
pub fair : (g : Setting) (s : Network) (ms : List Message) (k : ℕ) (call : Call) → IsBrought true ms k call → ((m : Message) → Contains ms m → IsComing g s m) → IsHonestCall g.config s (k + 1) call × IsGenuineCall s call × IsAskedCall s.said call
fair g s ms k (Step m) brought coming =
    elim (coming m brought.0) as (λ _. IsHonestCall g.config s (k + 1) (Step m) × IsGenuineCall s (Step m) × IsAskedCall s.said (Step m)) [
      | inl said ↦ (inl (said, brought.1), inl said, λ _. said)
      | inr foreign ↦ (inr (foreign.0, foreign.1), inr foreign.2, λ asks. absurd (foreign.3 asks))
    ]
fair g s ms k (Propose body) brought coming = (brought refl, tt, tt)
fair g s ms k _ brought coming = (tt, tt, tt)

-- a snapshot gives no vote
pub no_vote : (n : PlainNode) → kind.Snapshot (snapshot_of n) ≡ kind.VoteResponse true → ⊥
no_vote n e = cc
