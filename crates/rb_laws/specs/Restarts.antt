-- Networks whose nodes restart from what they have saved (Ongaro's thesis, section 3.8)
use Rattle.std.specs.Prelude.{ℕ, ◌≡◌, ◌≤◌, List, [], ◌∷◌, Option, Some, None, Contains, slice_get, slice_set}
use Rattle.rb_vocab.specs.declared.conf_state.ConfState.{ConfState}
use Rattle.rb_raftlog.specs.declared.entry.Entry.{Entry}
use Rattle.rb_tracker.specs.Changes.{IsConfig}
use Rattle.rb_tracker.specs.Configs.{config_of}
use Rattle.rb_tracker.specs.declared.config.Config.{Config}
use Rattle.rb_message.specs.declared.kind.MessageKind.{MessageKind}
use Rattle.rb_message.specs.declared.kind.MessageKind.TheVariants as kind
use Rattle.rb_message.specs.declared.message.Message.{Message}
use Rattle.rb_node.specs.Node.{PlainNode, node_step}
use Rattle.rb_node.specs.Restarting.{restarted}
use Rattle.rb_calls.specs.Calling.{Call, Step, after}
use Rattle.rb_laws.specs.Configurations.{AreChosen, IsStateKnown}
use Rattle.rb_calls.specs.Elections.{Elected}
use Rattle.rb_laws.specs.Honesty.{IsHonestHappening, IsGenuineCall}
use Rattle.rb_laws.specs.Network.{Network, Happening, happened, IsBegun}
use Rattle.rb_laws.specs.Safety.{IsTrueHappening, StartsAlike}

-- ---- steps

-- a node is called, or the node at a place restarts
pub data Occurrence : Type 0 where
  Called : Happening → Occurrence
  Restarted : ℕ → Occurrence

abbrev pub restarted_to : Option PlainNode → Network → ℕ → Network
restarted_to None s place = s
restarted_to (Some n) s place = record s { nodes = slice_set s.nodes place (restarted n) }

-- the network after a step
abbrev pub occurred : Network → Occurrence → Network
occurred s (Called h) = happened s h
occurred s (Restarted place) = restarted_to (slice_get s.nodes place) s place

-- and after one thing upon another
abbrev pub passed : List Occurrence → Network → Network
passed [] s = s
passed (o ∷ os) s = passed os (occurred s o)

-- ---- premises, as of networks whose nodes don't restart: of each call, where it happens

-- a rule of calls, which asks nothing of a restart
abbrev pub OfCalls : (Network → Happening → Type 0) → Network → Occurrence → Type 0
OfCalls rule s (Called h) = rule s h
OfCalls rule s (Restarted place) = Unit {0}

abbrev pub EachThrough : (Network → Occurrence → Type 0) → List Occurrence → Network → Type 0
EachThrough rule [] s = Unit {0}
EachThrough rule (o ∷ os) s = rule s o × EachThrough rule os (occurred s o)

abbrev pub IsHonestOccurrence : Config → Network → Occurrence → Type 0
IsHonestOccurrence c s o = OfCalls (IsHonestHappening c) s o

abbrev pub AreHonestThrough : Config → List Occurrence → Network → Type 0
AreHonestThrough c os s = EachThrough (IsHonestOccurrence c) os s

abbrev pub IsVoteRequest : MessageKind → Type 0
IsVoteRequest (kind.Vote last_term last_index transfer) = Unit {0}
IsVoteRequest _ = ⊥

-- a request for votes that comes was put out by a node
abbrev pub IsAskedCall : List Message → Call → Type 0
IsAskedCall said (Step m) = IsVoteRequest m.kind → Contains said m
IsAskedCall said _ = Unit {0}

abbrev pub IsAskedHappening : Network → Happening → Type 0
IsAskedHappening s h = IsGenuineCall s h.call × IsAskedCall s.said h.call

abbrev pub IsGenuineOccurrence : Network → Occurrence → Type 0
IsGenuineOccurrence s o = OfCalls IsAskedHappening s o

abbrev pub AreGenuineThrough : List Occurrence → Network → Type 0
AreGenuineThrough os s = EachThrough IsGenuineOccurrence os s

abbrev pub IsTrueOccurrence : Network → Occurrence → Type 0
IsTrueOccurrence s o = OfCalls IsTrueHappening s o

abbrev pub AreTrueThrough : List Occurrence → Network → Type 0
AreTrueThrough os s = EachThrough IsTrueOccurrence os s

-- ---- a network at two moments of a run, where its nodes may restart

pub record IsHonestRestartingNetwork (s : Network) (earlier later : List Occurrence) : Type 0 where
  pub members : ConfState
  pub single : members.outgoing ≡ []
  pub begun : IsBegun members s
  pub before : AreHonestThrough (config_of members) earlier s
  pub since : AreHonestThrough (config_of members) later (passed earlier s)

-- And no append and no request for votes is forged.
pub record IsGenuineRestartingNetwork (s : Network) (earlier later : List Occurrence) : Type 0 where
  pub honest : IsHonestRestartingNetwork s earlier later
  pub before : AreGenuineThrough earlier s
  pub since : AreGenuineThrough later (passed earlier s)

pub record IsRestartingNetwork (s : Network) (earlier later : List Occurrence) : Type 0 where
  pub starts : StartsAlike s
  pub before : AreTrueThrough earlier s
  pub since : AreTrueThrough later (passed earlier s)

-- ---- and as members change

abbrev pub IsKnownHappening : Network → Happening → Type 0
IsKnownHappening s h = IsStateKnown s h.call

abbrev pub IsAgreedOccurrence : (ℕ → Entry) → Network → Occurrence → Type 0
IsAgreedOccurrence chosen s o = AreChosen chosen s.nodes × OfCalls IsKnownHappening s o

abbrev pub AreAgreedThrough : (ℕ → Entry) → List Occurrence → Network → Type 0
AreAgreedThrough chosen os s = EachThrough (IsAgreedOccurrence chosen) os s

pub record IsAgreedRestartingNetwork (chosen : ℕ → Entry) (s : Network) (earlier later : List Occurrence) : Type 0 where
  pub starts : StartsAlike s
  pub proper : IsConfig (config_of starts.members)
  pub before : AreAgreedThrough chosen earlier s
  pub since : AreAgreedThrough chosen later (passed earlier s)

-- Whomever a call elects in a term is the one of that term, and has saved it by then. Each append that comes was put out by a node.
abbrev pub IsElectedWith : (ℕ → ℕ) → Option PlainNode → Happening → Type 0
IsElectedWith leader None h = Unit {0}
IsElectedWith leader (Some n) h =
    (term : ℕ) → Elected h.call (node_step n h.told) term → (leader term ≡ n.id) × (term ≤ (after h.call (node_step n h.told)).node.saved.term)

abbrev pub IsElectedHappening : (ℕ → ℕ) → Network → Happening → Type 0
IsElectedHappening leader s h = IsElectedWith leader (slice_get s.nodes h.place) h × IsGenuineCall s h.call

abbrev pub IsElectedOccurrence : (ℕ → ℕ) → Network → Occurrence → Type 0
IsElectedOccurrence leader s o = OfCalls (IsElectedHappening leader) s o

abbrev pub AreElectedThrough : (ℕ → ℕ) → List Occurrence → Network → Type 0
AreElectedThrough leader os s = EachThrough (IsElectedOccurrence leader) os s

pub record IsLedRestartingNetwork (s : Network) (os : List Occurrence) : Type 0 where
  pub members : ConfState
  pub begun : IsBegun members s
  pub leader : ℕ → ℕ
  pub led : AreElectedThrough leader os s
