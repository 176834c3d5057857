-- What happens as time passes: campaigns, and a leader's heartbeats (Ongaro's thesis, sections 3.4, 6.2 and 9.6)
use Rattle.std.specs.Prelude.{ℕ, zero, suc, ◌≡◌, ◌+◌, ◌≤◌, ◌<◌, ◌⊎◌, true, false, min, List, [], ◌∷◌, Contains}
use Rattle.rb_raftlog.specs.Log.{last, last_term}
use Rattle.rb_raftlog.specs.declared.limits.TheConstants.{MAX_TERM}
use Rattle.rb_tracker.specs.Active.{quorum_active}
use Rattle.rb_tracker.specs.Commits.{match_of}
use Rattle.rb_tracker.specs.Configs.{voters}
use Rattle.rb_tracker.specs.Sets.{has}
use Rattle.rb_message.specs.declared.kind.MessageKind.{MessageKind}
use Rattle.rb_message.specs.declared.kind.MessageKind.TheVariants.{Vote, PreVote, Heartbeat}
use Rattle.rb_message.specs.declared.message.Message.{Message}
use Rattle.rb_message.specs.declared.role.Role.TheVariants.{Candidate, Precandidate}
use Rattle.rb_node.specs.declared.limits.TheConstants.{MAX_TICKS}
use Rattle.rb_node.specs.Node.{PlainNode, message}
use Rattle.rb_calls.specs.Calling.{Call, Tick}
use Rattle.rb_laws.specs.Choices.{MayCampaign}

-- each other voter is asked something in the next term
abbrev pub AsksAll : PlainNode → PlainNode → MessageKind → Type 0
AsksAll old new question =
    (id : ℕ) → has (voters old.tracker.config) id ≡ true → (id ≡ old.id → ⊥) → Contains new.sent (message old.id id (old.term + 1) question)

-- a node is a candidate of the next term, with its own vote, and asks each other voter for its vote
pub record AsksForVotes (old new : PlainNode) : Type 0 where
  pub role : new.role ≡ Candidate
  pub term : new.term ≡ old.term + 1
  pub vote : new.vote ≡ old.id
  pub asks : AsksAll old new (Vote (last_term old.log) (last old.log) false)

-- a node asks each other voter whether it would get its vote in the next term
pub record AsksForPreVotes (old new : PlainNode) : Type 0 where
  pub role : new.role ≡ Precandidate
  pub term : new.term ≡ old.term
  pub vote : new.vote ≡ old.vote
  pub asks : AsksAll old new (PreVote (last_term old.log) (last old.log))

abbrev pub HasCampaigned : PlainNode → PlainNode → Type 0
HasCampaigned old new = ((old.options.pre_vote ≡ false) × AsksForVotes old new) ⊎ ((old.options.pre_vote ≡ true) × AsksForPreVotes old new)

-- a node may campaign, and counts up to its timeout
pub record CanTimeOut (n : PlainNode) : Type 0 where
  pub may : MayCampaign n
  pub term : n.term < MAX_TERM
  pub timeout : n.clock.timeout ≤ MAX_TICKS

-- a number of ticks
abbrev pub ticks : ℕ → List Call
ticks zero = []
ticks (suc n) = Tick ∷ ticks n

-- a leader that has heard of a quorum since it last looked, or that doesn't look (section 6.2)
abbrev pub IsSupported : PlainNode → Type 0
IsSupported n = (n.options.check_quorum ≡ false) ⊎ (quorum_active n.tracker ≡ true)

-- a heartbeat to a member: its commit is at most what the member is known to hold
abbrev pub heartbeat : PlainNode → ℕ → Message
heartbeat n id = message n.id id n.term (Heartbeat (min (match_of n.tracker.views id) n.commit))
