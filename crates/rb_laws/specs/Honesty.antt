-- The premises of the laws of elections and of logs: nodes start with the same members, no vote and no append is forged, and nobody asks for another
-- configuration. The laws of what is committed ask for more, which gives these (Safety; the lemmas of proofs/TrueCalls.antt).
use Rattle.std.specs.Prelude.{ℕ, ◌≡◌, ◌+◌, ◌⊎◌, true, false, List, [], All, Contains}
use Rattle.rb_vocab.specs.declared.conf_state.ConfState.{ConfState}
use Rattle.rb_raftlog.specs.Bodies.{is_change}
use Rattle.rb_raftlog.specs.declared.entry.Entry.{Entry}
use Rattle.rb_tracker.specs.Configs.{config_of}
use Rattle.rb_tracker.specs.declared.config.Config.{Config}
use Rattle.rb_message.specs.declared.kind.MessageKind.{MessageKind}
use Rattle.rb_message.specs.declared.kind.MessageKind.TheVariants as kind
use Rattle.rb_message.specs.declared.message.Message.{Message}
use Rattle.rb_calls.specs.Calling.{Call, Step, Propose}
use Rattle.rb_laws.specs.Network.{Network, Happening, run, Each, IsBegun}

-- ---- the configuration stays

abbrev pub IsPlain : Entry → Type 0
IsPlain e = is_change e.body ≡ false

-- what is said asks for no change, brings none among entries, and no other configuration by a snapshot
abbrev pub KeepsBy : Config → MessageKind → Type 0
KeepsBy c (kind.Proposal body) = is_change body ≡ false
KeepsBy c (kind.Append append) = All IsPlain append.entries
KeepsBy c (kind.Snapshot snapshot) = config_of snapshot.config ≡ c
KeepsBy c _ = Unit {0}

abbrev pub Keeps : Config → Message → Type 0
Keeps c m = KeepsBy c m.kind

-- ---- honesty

-- A message was put out by a node, and comes to the node that it is for; or, whoever made it up, it gives no vote and keeps the
-- configuration. Nobody proposes a change.
abbrev pub IsHonestCall : Config → Network → ℕ → Call → Type 0
IsHonestCall c s id (Step m) = (Contains s.said m × (m.to ≡ id)) ⊎ ((m.kind ≡ kind.VoteResponse true → ⊥) × Keeps c m)
IsHonestCall c s id (Propose body) = is_change body ≡ false
IsHonestCall c s id _ = Unit {0}

abbrev pub IsHonestHappening : Config → Network → Happening → Type 0
IsHonestHappening c s h = IsHonestCall c s (h.place + 1) h.call

abbrev pub AreHonest : Config → List Happening → Network → Type 0
AreHonest c hs s = Each (IsHonestHappening c) hs s

-- ---- appends are the nodes' own

abbrev pub IsNoAppend : MessageKind → Type 0
IsNoAppend (kind.Append append) = ⊥
IsNoAppend _ = Unit {0}

-- An append was put out by a node; it may come to any. Whatever else comes is open here.
abbrev pub IsGenuineCall : Network → Call → Type 0
IsGenuineCall s (Step m) = Contains s.said m ⊎ IsNoAppend m.kind
IsGenuineCall s _ = Unit {0}

abbrev pub IsGenuineHappening : Network → Happening → Type 0
IsGenuineHappening s h = IsGenuineCall s h.call

abbrev pub AreGenuine : List Happening → Network → Type 0
AreGenuine hs s = Each IsGenuineHappening hs s

-- ---- a network at two moments of a run

-- Its nodes start with the same members, not joint, and all that happens up to each moment is honest.
pub record IsHonestNetwork (s : Network) (earlier later : List Happening) : Type 0 where
  pub members : ConfState
  pub single : members.outgoing ≡ []
  pub begun : IsBegun members s
  pub before : AreHonest (config_of members) earlier s
  pub since : AreHonest (config_of members) later (run earlier s)

-- And no append is forged.
pub record IsGenuineNetwork (s : Network) (earlier later : List Happening) : Type 0 where
  pub honest : IsHonestNetwork s earlier later
  pub before : AreGenuine earlier s
  pub since : AreGenuine later (run earlier s)
