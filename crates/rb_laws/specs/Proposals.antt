-- What is proposed, and what becomes of it (Ongaro's thesis, sections 3.5, 3.10 and 4.1)
use Rattle.std.specs.Prelude.{◌≡◌, ◌<◌, ◌≤◌, ◌⊎◌, true, ◌==◌, List, [], length, Contains}
use Rattle.rb_raftlog.specs.declared.entry.Body.{Body}
use Rattle.rb_raftlog.specs.declared.entry.Body.TheVariants.{Payload, Change}
use Rattle.rb_raftlog.specs.declared.limits.TheConstants.{MAX_INDEX}
use Rattle.rb_raftlog.specs.Log.{last}
use Rattle.rb_vocab.specs.declared.change.Transition.TheVariants.{Auto}
use Rattle.rb_vocab.specs.declared.change.Word.{Word}
use Rattle.rb_tracker.specs.Configs.{is_joint}
use Rattle.rb_tracker.specs.Trackers.{has_view}
use Rattle.rb_message.specs.declared.kind.MessageKind.{MessageKind}
use Rattle.rb_message.specs.declared.kind.MessageKind.TheVariants as kind
use Rattle.rb_message.specs.declared.role.Role.TheVariants.{Leader}
use Rattle.rb_node.specs.Node.{PlainNode}
use Rattle.rb_calls.specs.Calling.{Call, Step, Propose}
use Rattle.rb_laws.specs.Network.{Network, Happening, Each}

-- a node takes proposals: it leads, is a member, hands the lead to nobody, and its log isn't full
pub record TakesProposals (n : PlainNode) : Type 0 where
  pub leads : n.role ≡ Leader
  pub member : has_view n.tracker.views n.id ≡ true
  pub stays : n.transferee ≡ 0
  pub room : last n.log < MAX_INDEX

-- A leader may append a change: each earlier one is applied. No words leave a joint configuration, and nothing else does.
pub record MayChange (n : PlainNode) (words : List Word) : Type 0 where
  pub applied : n.pending_change ≤ n.applied
  pub leaves : (length words == 0) ≡ is_joint n.tracker.config

-- ---- a network

-- a message that brings no entry and asks for none
abbrev pub BringsNone : MessageKind → Type 0
BringsNone (kind.Append append) = ⊥
BringsNone (kind.Proposal body) = ⊥
BringsNone _ = Unit {0}

-- Each append and each proposal that comes was put out by a node, for whomever; other messages may be made up.
abbrev pub IsSaidCall : Network → Call → Type 0
IsSaidCall s (Step m) = Contains s.said m ⊎ BringsNone m.kind
IsSaidCall s _ = Unit {0}

abbrev pub IsSaidHappening : Network → Happening → Type 0
IsSaidHappening s h = IsSaidCall s h.call

abbrev pub AreSaid : List Happening → Network → Type 0
AreSaid hs s = Each IsSaidHappening hs s

-- a node was asked to propose something
pub record WasProposed (hs : List Happening) (body : Body) : Type 0 where
  pub happening : Happening
  pub among : Contains hs happening
  pub proposes : happening.call ≡ Propose body

-- where an entry comes from: it was proposed, it is empty, or it leaves a joint configuration
abbrev pub HasSource : List Happening → Body → Type 0
HasSource hs body = WasProposed hs body ⊎ ((body ≡ Payload []) ⊎ (body ≡ Change Auto []))
