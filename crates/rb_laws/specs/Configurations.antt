-- Each node's configuration as members change: a change counts once it is applied (Ongaro's thesis, section 4.1, has it count once it is appended; etcd
-- raft documentation, "Membership Changes")
use Rattle.std.specs.Prelude.{ℕ, zero, suc, ◌≡◌, ◌+◌, ◌<◌, ◌≤◌, ◌⊎◌, true, List, [], Contains, Ok, Option, Some, None, slice_get}
use Rattle.rb_vocab.specs.declared.conf_state.ConfState.{ConfState}
use Rattle.rb_raftlog.specs.Bodies.{is_change}
use Rattle.rb_raftlog.specs.declared.entry.Entry.{Entry}
use Rattle.rb_raftlog.specs.Log.{LogValue, entry_at}
use Rattle.rb_tracker.specs.Changes.{IsConfig}
use Rattle.rb_tracker.specs.Configs.{config_of}
use Rattle.rb_tracker.specs.declared.config.Config.{Config}
use Rattle.rb_message.specs.Appends.{PlainAppend}
use Rattle.rb_message.specs.declared.kind.MessageKind.{MessageKind}
use Rattle.rb_message.specs.declared.kind.MessageKind.TheVariants as kind
use Rattle.rb_node.specs.Compacting.{config_with}
use Rattle.rb_node.specs.Node.{PlainNode, node_step}
use Rattle.rb_calls.specs.Calling.{Call, Step}
use Rattle.rb_calls.specs.Elections.{Elected}
use Rattle.rb_laws.specs.Honesty.{AreGenuine}
use Rattle.rb_laws.specs.Network.{Network, Happening, run, Each, IsBegun}
use Rattle.rb_laws.specs.Safety.{IsStateOf, StartsAlike}

-- what the entries of some indexes after a base make of a configuration, one after another
abbrev pub config_after_all : (ℕ → Entry) → Config → ℕ → ℕ → Config
config_after_all chosen c base zero = c
config_after_all chosen c base (suc k) = config_with (config_after_all chosen c base k) (chosen (base + suc k)).body

-- What each node knows to be committed is the entry that is chosen for its index, as far as the log still has it. So committed entries agree.
abbrev pub AreChosen : (ℕ → Entry) → List PlainNode → Type 0
AreChosen chosen nodes =
    (k i : ℕ) (n : PlainNode) → slice_get nodes k ≡ Some n → n.log.base < i → i ≤ n.commit → entry_at n.log i ≡ Ok (chosen i)

abbrev pub BringsNoState : MessageKind → Type 0
BringsNoState (kind.Snapshot snapshot) = ⊥
BringsNoState _ = Unit {0}

-- A snapshot that comes was put out by a node, or is of the state that a node has; all other messages may be made up.
abbrev pub IsStateKnown : Network → Call → Type 0
IsStateKnown s (Step m) = Contains s.said m ⊎ (IsStateOf s.nodes m ⊎ BringsNoState m.kind)
IsStateKnown s _ = Unit {0}

-- both, where something happens
abbrev pub IsAgreedHappening : (ℕ → Entry) → Network → Happening → Type 0
IsAgreedHappening chosen s h = AreChosen chosen s.nodes × IsStateKnown s h.call

abbrev pub AreAgreed : (ℕ → Entry) → List Happening → Network → Type 0
AreAgreed chosen hs s = Each (IsAgreedHappening chosen) hs s

-- a network at two moments of a run, whose nodes start alike, and in which committed entries agree up to each
pub record IsAgreedNetwork (chosen : ℕ → Entry) (s : Network) (earlier later : List Happening) : Type 0 where
  pub starts : StartsAlike s
  pub proper : IsConfig (config_of starts.members)
  pub before : AreAgreed chosen earlier s
  pub since : AreAgreed chosen later (run earlier s)

-- ---- one change at a time

-- past an index a log has at most one change
abbrev pub HasOneChangePast : LogValue → ℕ → Type 0
HasOneChangePast v index =
    (i j : ℕ) (e f : Entry) → index < i → index < j → entry_at v i ≡ Ok e → entry_at v j ≡ Ok f → is_change e.body ≡ true → is_change f.body ≡ true → i ≡ j

-- an append's entries, as a log that begins at the entry before them
abbrev pub log_of : PlainAppend → LogValue
log_of append = record { base = append.prev; base_term = append.prev_term; entries = append.entries; durable = append.prev; overwritten = [] }

-- A term has at most one leader: whomever a call elects in a term is the one of that term.
abbrev pub IsElectedAs : (ℕ → ℕ) → Option PlainNode → Happening → Type 0
IsElectedAs leader None h = Unit {0}
IsElectedAs leader (Some n) h = (term : ℕ) → Elected h.call (node_step n h.told) term → leader term ≡ n.id

abbrev pub IsLedHappening : (ℕ → ℕ) → Network → Happening → Type 0
IsLedHappening leader s h = IsElectedAs leader (slice_get s.nodes h.place) h

abbrev pub AreElectedAs : (ℕ → ℕ) → List Happening → Network → Type 0
AreElectedAs leader hs s = Each (IsLedHappening leader) hs s

-- a network in which each term has at most one leader, and no append is forged
pub record IsLedNetwork (s : Network) (hs : List Happening) : Type 0 where
  pub members : ConfState
  pub begun : IsBegun members s
  pub leader : ℕ → ℕ
  pub led : AreElectedAs leader hs s
  pub genuine : AreGenuine hs s
